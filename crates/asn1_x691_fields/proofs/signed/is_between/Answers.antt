use Rattle.asn1_bits.specs.Bits.{bits}
use Rattle.asn1_schema.specs.PiecesOfParts.{bits_of, signed_number}
use Rattle.asn1_x691_fields.specs.SignedSteps.{far, far_outside}
use Rattle.asn1_x691_fields.proofs.signed.is_between.Goals as goal

pub returns-then-span-gt128-clause-outside : goal.returns-then-span-gt128-clause-outside
returns-then-span-gt128-clause-outside c e =
    let z = signed_number (bits_of (bits c.args.octets.now) c.args.span) in
    far_outside z c.args.least c.args.range (far c.args.span.count z c.if-span-gt128.true c.requires.whole c.requires.fewest)
    c.requires.fits c.ranges.least
