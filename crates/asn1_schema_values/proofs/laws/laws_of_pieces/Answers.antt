use Rattle.asn1_schema_values.proofs.PieceLemmas.{pieces_have_values}
use Rattle.asn1_schema_values.proofs.laws.laws_of_pieces.Goals as goal

pub returns : goal.returns
returns c ranges list n count = pieces_have_values ranges list c.args.parts.now n count
