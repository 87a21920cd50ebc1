use Rattle.std.proofs.Common.{arith}
use Rattle.asn1_x691_fields.proofs.NumberLemmas.{width_is}
use Rattle.asn1_x691_fields.proofs.numbers.width_to.Goals as goal

pub returns-clause-value : goal.returns-clause-value
returns-clause-value c = width_is c.args.range (omega arith)
