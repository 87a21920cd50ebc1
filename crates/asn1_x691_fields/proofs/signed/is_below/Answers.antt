use Rattle.std.proofs.Common.{◌+◌, ◌≤◌, length, arith}
use Rattle.asn1_bits.specs.Bits.{bits}
use Rattle.asn1_bits.specs.Laws.DigitLaws.{length-bits}
use Rattle.asn1_schema.specs.PiecesOfParts.{bits_of, signed_number}
use Rattle.asn1_x691_fields.specs.SignedSteps.{far, far_below, far_above}
use Rattle.asn1_x691_fields.proofs.signed.is_below.Goals as goal

pub returns-then-span-gt128-clause-below : goal.returns-then-span-gt128-clause-below
returns-then-span-gt128-clause-below c e =
    let list = bits c.args.octets.now in
    let span = c.args.span in
    let inside : span.at + span.count ≤ length list = omega (arith, c.requires.inside, length-bits c.args.octets.now) in
    far_below list span.at span.count c.number_at.result c.requires.some inside c.number_at.ensures c.args.bound e
    (far span.count (signed_number (bits_of list span)) c.if-span-gt128.true c.requires.whole c.requires.fewest)
    c.ranges.bound

pub returns-then-span-gt128-clause-above : goal.returns-then-span-gt128-clause-above
returns-then-span-gt128-clause-above c e =
    let list = bits c.args.octets.now in
    let span = c.args.span in
    let inside : span.at + span.count ≤ length list = omega (arith, c.requires.inside, length-bits c.args.octets.now) in
    far_above list span.at span.count c.number_at.result c.requires.some inside c.number_at.ensures c.args.bound e
    (far span.count (signed_number (bits_of list span)) c.if-span-gt128.true c.requires.whole c.requires.fewest)
    c.ranges.bound
