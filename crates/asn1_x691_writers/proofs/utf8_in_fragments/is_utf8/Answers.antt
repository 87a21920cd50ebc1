use Rattle.std.proofs.Common.{length, ap, arith}
use Rattle.asn1_bits.specs.Laws.DigitLaws.{length-bits}
use Rattle.asn1_x691_writers.proofs.utf8_in_fragments.is_utf8.Goals as goal

pub returns-then-total-gt0-clause-no : goal.returns-then-total-gt0-clause-no
returns-then-total-gt0-clause-no c e t = omega (arith, ap length t.2, length-bits t.0, c.requires.all, c.if-total-gt0.true)
