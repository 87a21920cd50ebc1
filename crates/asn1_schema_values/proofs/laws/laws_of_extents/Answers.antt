use Rattle.asn1_schema_values.proofs.ExtentLemmas.{one_end}
use Rattle.asn1_schema_values.proofs.laws.laws_of_extents.Goals as goal

pub returns : goal.returns
returns c = one_end c.args.parts.now
