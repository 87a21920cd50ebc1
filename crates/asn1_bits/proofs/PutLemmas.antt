-- Words that are written over zeros.
use Rattle.std.proofs.Common.{◌≡◌, ℕ, ◌+◌, ◌-◌, ◌*◌, ◌/◌, ◌%◌, ◌^◌, ◌<◌, ◌≤◌, Bool, false, List, ◌++◌, length, take, drop, replicate, sym, ap, ◌∙◌, arith}
use Rattle.std.specs.Prelude.{bit_and}
use Rattle.std.specs.Int.{bytes_high_first}
use Rattle.std.proofs.Math.Nat.{mod-eq_of_lt}
use Rattle.std.proofs.Math.Pow.{pow_mono}
use Rattle.std.proofs.lemmas.Nat.{and_mask, shl_below}
use Rattle.std.proofs.lemmas.List.{length-append, length-take, drop_at}
use Rattle.asn1_bits.specs.Bits.{digits, bits, ored, IsZeroFrom}
use Rattle.asn1_bits.specs.Laws.DigitLaws.{length-digits, length-bits}
use Rattle.asn1_bits.specs.Laws.ByteLaws.{digits-mod, bits-bytes}
use Rattle.asn1_bits.specs.Laws.NumberLaws.{digits-append}
use Rattle.asn1_bits.proofs.OredLemmas.{length-ored, ored-append, ored-append_left}
use Rattle.asn1_bits.proofs.ZeroLemmas.{zeros_behind, zeros-later}
use Rattle.asn1_bits.proofs.RoomLemmas.{room-step, room-over, ored-room}
use Rattle.asn1_bits.specs.BitBuffer.{bits_shown, IsFilled}
use Rattle.asn1_bits.proofs.BufferLemmas.{length-bits_shown, filled_by}
use Rattle.asn1_bits.proofs.EightLemmas.{eight-stored}
use Rattle.asn1_bits.proofs.WindowLemmas.{moved, or-near, low-part}

-- a number moved to its offset in a window of m octets by one shift, and ORed in
pub put-moved : (m : ℕ) (old new : List Bool) (place n width : ℕ) → 0 < width → place % 8 + width ≤ 8 * m
    → 8 * (place / 8) + 8 * m ≤ length old → n < 2 ^ width
    → new ≡ ored old (8 * (place / 8)) (digits (n * 2 ^ (8 * m - width - place % 8) % 2 ^ (8 * m)) (8 * m))
    → new ≡ ored old place (digits n width)
put-moved m old new place n width some fits room small e =
    or-near m old new place n width some fits room
    (e ∙ ap (λ (k : ℕ). ored old (8 * (place / 8)) (digits k (8 * m))) (moved (8 * m) n width (place % 8) fits small))

-- there it has no digit before its offset
pub moved-below : (size n width shift : ℕ) → shift + width ≤ size → n < 2 ^ width
    → n * 2 ^ (size - width - shift) % 2 ^ size < 2 ^ (size - shift)
moved-below size n width shift fits small =
    let rest = size - width - shift in
    let all : width + rest ≡ size - shift = omega arith in
    let below : n * 2 ^ rest < 2 ^ (size - shift) = rw (sym (ap (λ (k : ℕ). 2 ^ k) all)) (shl_below n width rest small) in
    let within : n * 2 ^ rest < 2 ^ size = omega (arith, below, pow_mono {i = size - shift} {j = size} (omega arith)) in
    rw (mod-eq_of_lt within) below

-- the offset of the octet after the one where zeros begin
pub zeros-behind_begun : (place : ℕ) (list : List Bool) → IsZeroFrom place list → 8 * (place / 8) + 8 ≤ length list
    → IsZeroFrom (8 * (place / 8) + 8) list
zeros-behind_begun place list z h =
    zeros-later place (8 * (place / 8) + 8) list z (omega arith) h

-- bits that are ORed in before an offset leave the zeros from it on
pub zeros-past : (old new src : List Bool) (place next : ℕ) → IsZeroFrom next old → new ≡ ored old place src
    → place + length src ≤ next → IsZeroFrom next new
zeros-past old new src place next z e h =
    let front = take next old in
    let count = length old - next in
    let n : length front ≡ next = omega (arith, length-take next old, z.within) in
    let done = ored front place src in
    let shape : new ≡ done ++ replicate count false = e
    ∙ ap (λ (l : List Bool). ored l place src) (zeros_behind next old z)
    ∙ ored-append_left front (replicate count false) place src (omega (arith, n, h)) in
    let len : length done ≡ next = length-ored front place src ∙ n in
    let total : length new ≡ length old = ap (λ (l : List Bool). length l) e ∙ length-ored old place src in
    record {
      within = omega (arith, total, z.within);
      zero =
          ap (drop next) shape ∙ drop_at done (replicate count false) next len
          ∙ (let same : count ≡ length new - next = omega (arith, total) in ap (λ (k : ℕ). replicate k false) same);
    }

-- the eight octets of a word, stored over zeros
pub put-eight : (old new octets : List ℕ) (q word : ℕ) → new ≡ take q old ++ (octets ++ drop (q + 8) old)
    → octets ≡ bytes_high_first 8 word → IsZeroFrom (8 * q) (bits old) → q + 8 ≤ length old
    → bits new ≡ ored (bits old) (8 * q) (digits word 64)
put-eight old new octets q word e is z room =
    let whole : bits octets ≡ digits word 64 = ap bits is ∙ bits-bytes 8 word in
    let n = length-digits word 64 in
    let len : length octets ≡ 8 = omega (arith, length-bits octets, ap (λ (l : List Bool). length l) whole, n) in
    eight-stored old new octets q e len
    ∙ ap (λ (l : List Bool). take (8 * q) (bits old) ++ (l ++ drop (8 * q + 64) (bits old))) whole
    ∙ ap (λ (k : ℕ). take (8 * q) (bits old) ++ (digits word 64 ++ drop (8 * q + k) (bits old))) (sym n)
    ∙ room-over (bits old) (digits word 64) (8 * q) z (omega (arith, n, length-bits old, room))

-- a number's digits that are ORed in by two pieces, one after the other
pub placed-two : (old one two : List Bool) (place next n front back width : ℕ)
    → one ≡ ored old place (digits (n / 2 ^ back) front) → two ≡ ored one next (digits n back)
    → next ≡ place + front → width ≡ front + back → next + back ≤ length old
    → two ≡ ored old place (digits n width)
placed-two old one two place next n front back width e f at is room =
    f
    ∙ ap (λ (l : List Bool). ored l next (digits n back)) e
    ∙ ored-append old place next (digits (n / 2 ^ back) front) (digits n back)
    (omega (arith, at, length-digits (n / 2 ^ back) front)) (omega (arith, length-digits n back, room))
    ∙ ap (ored old place) (sym (digits-append n front back) ∙ ap (digits n) (sym is))

-- zeros are left after what was written over their front
pub put-left : (old new src : List Bool) (place next width : ℕ) → IsZeroFrom place old → new ≡ ored old place src
    → length src ≡ width → next ≡ place + width → next ≤ length old
    → IsZeroFrom next new
put-left old new src place next width z e n at room =
    rw at (room-step old new src place width z e n (omega (arith, at, room))).rest

-- digits of a number's lowest 64
pub digits-lowest : (n width : ℕ) → width ≤ 64 → digits (bit_and n 0xFFFF_FFFF_FFFF_FFFF) width ≡ digits n width
digits-lowest n width h =
    let spare = 64 - width in
    let s : 64 ≡ spare + width = omega arith in
    let low = n % 2 ^ 64 in
    ap (λ (m : ℕ). digits m width) (and_mask n 64)
    ∙ sym (ap (λ (k : ℕ). drop spare (digits low k)) s ∙ low-part low spare width)
    ∙ ap (drop spare) (digits-mod n 64)
    ∙ ap (λ (k : ℕ). drop spare (digits n k)) s ∙ low-part n spare width

-- a buffer's octets after bits were ORed into the zeros after what it shows
pub filled-pushed : (octets after : List ℕ) (len width : ℕ) (src : List Bool) → IsFilled octets len
    → bits after ≡ ored (bits octets) len src → length src ≡ width → len + width ≤ 8 * length octets
    → IsFilled after (len + width) × (bits_shown after (len + width) ≡ bits_shown octets len ++ src)
unfolding bits_shown
filled-pushed octets after len width src f e n room =
    let all = bits octets in
    let shown = bits_shown octets len in
    let length-pushed : length after ≡ length octets =
    omega (
      arith,
      length-bits after,
      length-bits octets,
      ap (λ (l : List Bool). length l) e,
      length-ored all len src,
    ) in
    filled_by after (len + width) (shown ++ src) (length all - (len + length src))
    (e ∙ ored-room all src len f.rest (omega (arith, length-bits octets, n, room)))
    (omega (arith, length-append shown src, length-bits_shown octets len f, n))
    (omega (arith, length-pushed, room)) (omega (arith, length-pushed, f.few))
