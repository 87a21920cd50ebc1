use Rattle.std.proofs.Common.{arith}
use Rattle.asn1_bits.specs.Laws.DigitLaws.{length-bits}
use Rattle.asn1_x691_fields.proofs.utf8_fragments.is_utf8_in_fragments.Goals as goal

pub is_utf8-requires-clause-inside : goal.is_utf8-requires-clause-inside
is_utf8-requires-clause-inside c = omega (arith, c.requires.inside.last.inside, length-bits c.args.message.now)
