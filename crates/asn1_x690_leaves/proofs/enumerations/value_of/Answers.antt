use Rattle.std.proofs.Common.{arith}
use Rattle.asn1_bits.specs.Bits.{bits}
use Rattle.asn1_bits.specs.Laws.DigitLaws.{length-bits}
use Rattle.asn1_schema.specs.PiecesOfParts.{bits_of, signed_number}
use Rattle.asn1_x691_fields.specs.SignedSteps.{far}
use Rattle.asn1_x690_leaves.proofs.enumerations.value_of.Goals as goal

pub signed_at-requires-clause-inside : goal.signed_at-requires-clause-inside
signed_at-requires-clause-inside c =
    let i = c.requires.contents.inside in omega (arith, length-bits c.args.octets.now, i)

pub returns-then-span-gt128 : goal.returns-then-span-gt128
returns-then-span-gt128 c =
    far c.args.span.count (signed_number (bits_of (bits c.args.octets.now) c.args.span)) c.if-span-gt128.true
    c.requires.contents.whole c.requires.fewest
