use Rattle.std.proofs.Common.{◌-◌, ◌^◌, ◌≤◌, [], inl, refl, arith}
use Rattle.std.proofs.Math.Pow.{pow_mono}
use Rattle.asn1_bits.specs.Bits.{bits, number}
use Rattle.asn1_bits.specs.Laws.DigitLaws.{length-bits}
use Rattle.asn1_schema.specs.PiecesOfParts.{bits_of}
use Rattle.asn1_x691_fields.proofs.small.next_at_least_64.Goals as goal
use Rattle.asn1_x691_fields.proofs.small.next_at_least_64.Goals.{Then-span-gt64}

wide : (c : Then-span-gt64) → 2 ^ 64 ≤ number (bits_of (bits c.args.octets.now) c.args.span)
wide c =
    let many : 64 ≤ c.args.span.count - 8 = omega (arith, c.requires.octets.whole, c.if-span-gt64.true) in
    let up : 2 ^ 64 ≤ 2 ^ (c.args.span.count - 8) = pow_mono many in
    let low = c.requires.fewest (omega (arith, c.if-span-gt64.true)) in
    omega (arith, up, low)

pub returns-then-span-gt64-clause-natural : goal.returns-then-span-gt64-clause-natural
returns-then-span-gt64-clause-natural c = (c.requires.octets, wide c)

pub returns-then-span-gt64-clause-read : goal.returns-then-span-gt64-clause-read
returns-then-span-gt64-clause-read c =
    record { front = []; encoded = inl (omega (arith, wide c), (refl, refl)); parts = refl }

pub last_number-n-requires-clause-within : goal.last_number-n-requires-clause-within
last_number-n-requires-clause-within c =
    omega (arith, length-bits c.args.octets.now, c.requires.octets.last, c.requires.within.ends, c.requires.within.inside)
