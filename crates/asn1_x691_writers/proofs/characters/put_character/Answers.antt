use Rattle.asn1_x691_writers.specs.TextSteps.{character_written}
use Rattle.asn1_x691_writers.proofs.characters.put_character.Goals as goal

pub returns : goal.returns
returns c node =
    let a = c.args.alphabet.now in
    character_written a.is_aligned a.ranges.now node c.args.character c.code_of.result a.width c.args.octets.now c.put_wide.new.octets
    c.args.at c.put_wide.result c.requires.within c.code_of.ensures.value c.requires.is.width c.code_of.ensures.below c.put_wide.ensures
