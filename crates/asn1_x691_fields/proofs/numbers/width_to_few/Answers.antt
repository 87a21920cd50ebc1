use Rattle.std.proofs.Common.{arith}
use Rattle.asn1_x691_fields.proofs.NumberLemmas.{width_among}
use Rattle.asn1_x691_fields.proofs.numbers.width_to_few.Goals as goal

pub returns-clause-value : goal.returns-clause-value
returns-clause-value c = width_among 32 c.args.range (omega arith)
