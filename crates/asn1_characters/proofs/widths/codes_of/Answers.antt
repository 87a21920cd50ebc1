use Rattle.asn1_characters.specs.Laws.WidthLaws.{codes_small}
use Rattle.asn1_characters.proofs.widths.codes_of.Goals as goal

pub returns : goal.returns
returns c = codes_small c.args.width c.requires
