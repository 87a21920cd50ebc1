use Rattle.std.proofs.Common.{arith}
use Rattle.asn1_bits.specs.Laws.DigitLaws.{length-bits}
use Rattle.asn1_x690_leaves.proofs.strings.utf8_string.Goals as goal

pub is_utf8-requires-clause-inside : goal.is_utf8-requires-clause-inside
is_utf8-requires-clause-inside c =
    let i = c.requires.contents.inside in omega (arith, length-bits c.args.octets.now, i)
