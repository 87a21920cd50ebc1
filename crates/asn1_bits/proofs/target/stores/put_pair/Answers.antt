use Rattle.std.proofs.Common.{◌≡◌, ℕ, ◌+◌, ◌-◌, ◌*◌, ◌/◌, ◌%◌, ◌^◌, sym, ap, ◌∙◌, arith}
use Rattle.std.specs.Prelude.{bit_and}
use Rattle.std.proofs.lemmas.Nat.{shr_below}
use Rattle.asn1_bits.specs.Bits.{bits, digits, ored, IsZeroFrom}
use Rattle.asn1_bits.specs.Laws.DigitLaws.{length-bits, length-digits}
use Rattle.asn1_bits.proofs.PutLemmas.{put-moved, moved-below, put-eight, zeros-past, placed-two, digits-lowest}
use Rattle.asn1_bits.proofs.ZeroLemmas.{zeros-later}
use Rattle.asn1_bits.proofs.target.stores.put_pair.Goals as goal

pub add_octets-requires-clause-below : goal.add_octets-requires-clause-below
add_octets-requires-clause-below c =
    let shift = c.args.position % 8 in
    let pair = c.args.number * 2 ^ (128 - c.args.width - shift) % 2 ^ 128 in
    let n : 128 - shift ≡ 64 - shift + 64 = omega arith in
    shr_below pair (64 - shift) 64
    (rw (ap (λ (k : ℕ). 2 ^ k) (sym n)) (moved-below 128 c.args.number c.args.width shift c.requires.width c.requires.below))

pub returns : goal.returns
returns c =
    let old = bits c.args.dst.now in
    let one = bits c.add_octets.new.dst in
    let two = bits c.store_octets.new.dst in
    let q = c.args.position / 8 in
    let pair = c.args.number * 2 ^ (128 - c.args.width - c.args.position % 8) % 2 ^ 128 in
    let low = bit_and pair 0xFFFF_FFFF_FFFF_FFFF in
    let n = length-bits c.args.dst.now in
    let next : 8 * (q + 8) ≡ 8 * q + 64 = omega arith in
    let zeros : IsZeroFrom (8 * (q + 8)) one =
    zeros-past old one (digits (pair / 2 ^ 64) 64) (8 * q) (8 * (q + 8))
    (zeros-later c.args.position (8 * (q + 8)) old c.requires.zeros (omega arith)
    (omega (arith, n, c.requires.sixteen)))
    c.add_octets.ensures (omega (arith, length-digits (pair / 2 ^ 64) 64)) in
    put-moved 16 old two c.args.position c.args.number c.args.width c.requires.some c.requires.width
    (omega (arith, n, c.requires.sixteen)) c.requires.below
    (placed-two old one two (8 * q) (8 * (q + 8)) pair 64 64 128 c.add_octets.ensures
    (put-eight c.add_octets.new.dst c.store_octets.new.dst c.to_be_bytes.result (q + 8) low c.store_octets.ensures
    c.to_be_bytes.ensures zeros
    (omega (arith, c.add_octets.auto.dst, c.requires.sixteen))
    ∙ ap (ored one (8 * (q + 8))) (digits-lowest pair 64 (omega arith)))
    next (omega arith) (omega (arith, n, c.requires.sixteen)))
