use Rattle.std.proofs.Common.{rules, arith}
use Rattle.std.proofs.lemmas.Grind.{common_steps}
use Rattle.asn1_number.proofs.integer_bytes.IntegerBytes.as_ref.Goals as goal

pub returns-in-Borrowed : goal.returns-in-Borrowed
returns-in-Borrowed c = search rules

pub returns-in-Copied : goal.returns-in-Copied
returns-in-Copied c = grind (arith, common_steps)

pub returns-in-Words : goal.returns-in-Words
returns-in-Words c = grind (arith, common_steps)
