-- Words that are ORed in one after another.
use Rattle.std.proofs.Common.{◌≡◌, ℕ, ◌+◌, ◌-◌, ◌*◌, ◌/◌, ◌%◌, ◌^◌, ◌<◌, ◌≤◌, Bool, List, length, take, drop, sym, ap, ◌∙◌, arith, ◌++◌}
use Rattle.std.specs.Prelude.{bit_or}
use Rattle.std.proofs.Math.Seq.{take-add}
use Rattle.std.proofs.lemmas.List.{length-take, length-drop, drop-drop}
use Rattle.asn1_bits.specs.Bits.{digits, bits, ored, IsZeroFrom}
use Rattle.asn1_bits.specs.Laws.DigitLaws.{length-bits, bits-take, bits-drop}
use Rattle.asn1_bits.proofs.OredLemmas.{ored-append}
use Rattle.asn1_bits.proofs.EightLemmas.{eight-stored}
use Rattle.asn1_bits.proofs.RoomLemmas.{room-over}
use Rattle.asn1_bits.proofs.WindowLemmas.{joined}

-- the next bits of a list that is ORed in
pub more-placed : (old one new src : List Bool) (place n m next end : ℕ) → one ≡ ored old place (take n src)
    → new ≡ ored one next (take m (drop n src))
    → next ≡ place + n → end ≡ n + m → end ≤ length src → place + end ≤ length old → new ≡ ored old place (take end src)
more-placed old one new src place n m next end e f p q h room =
    let front = take n src in
    let piece = take m (drop n src) in
    f
    ∙ ap (λ (l : List Bool). ored l next piece) e
    ∙ ored-append old place next front piece (omega (arith, p, q, length-take n src))
    (omega (arith, p, q, length-take m (drop n src), length-drop n src))
    ∙ ap (ored old place) (sym (take-add n m src) ∙ ap (λ (k : ℕ). take k src) (sym q))

-- the bits of eight octets
pub bits-eight : (octets : List ℕ) (k : ℕ) → bits (take 8 (drop (8 * k) octets)) ≡ take 64 (drop (64 * k) (bits octets))
bits-eight octets k =
    let place : 8 * (8 * k) ≡ 64 * k = omega arith in
    bits-take 8 (drop (8 * k) octets)
    ∙ ap (take 64) (bits-drop (8 * k) octets ∙ ap (λ (n : ℕ). drop n (bits octets)) place)

-- eight octets that are copied over zeros
pub eight-copied : (old new piece src : List ℕ) (at k : ℕ) → IsZeroFrom (8 * at) (bits old)
    → new ≡ take at old ++ (piece ++ drop (at + 8) old) → piece ≡ take 8 (drop (8 * k) src)
    → 8 * k + 8 ≤ length src → at + 8 ≤ length old
    → bits new ≡ ored (bits old) (8 * at) (take 64 (drop (64 * k) (bits src)))
eight-copied old new piece src at k z e is h room =
    let len : length piece ≡ 8 = ap (λ (l : List ℕ). length l) is
    ∙ omega (arith, length-take 8 (drop (8 * k) src), length-drop (8 * k) src, h) in
    let many : length (bits piece) ≡ 64 = omega (arith, length-bits piece, len) in
    eight-stored old new piece at e len
    ∙ ap (λ (n : ℕ). take (8 * at) (bits old) ++ (bits piece ++ drop (8 * at + n) (bits old))) (sym many)
    ∙ room-over (bits old) (bits piece) (8 * at) z (omega (arith, many, length-bits old))
    ∙ ap (ored (bits old) (8 * at)) (ap bits is ∙ bits-eight src k)

-- a word of the end of one and the front of the next
pub word-of_two : (list : List Bool) (k shift back a b : ℕ) → shift < 64 → back ≡ 64 - shift → b < 2 ^ 64
    → digits a 64 ≡ take 64 (drop (8 * (8 * k)) list) → digits b 64 ≡ take 64 (drop (8 * (8 * k + 8)) list)
    → digits (bit_or (a * 2 ^ shift % 2 ^ 64) (b / 2 ^ back)) 64 ≡ take 64 (drop (64 * k) (drop shift list))
word-of_two list k shift back a b h same small e f =
    let here : 8 * (8 * k) ≡ 64 * k = omega arith in
    let next : 8 * (8 * k + 8) ≡ 64 * k + 64 = omega arith in
    let place : 64 * k + shift ≡ shift + 64 * k = omega arith in
    ap (λ (n : ℕ). digits (bit_or (a * 2 ^ shift % 2 ^ 64) (b / 2 ^ n)) 64) same
    ∙ joined list (64 * k) 64 64 shift a b (omega arith) (omega arith) small
    (e ∙ ap (λ (n : ℕ). take 64 (drop n list)) here) (f ∙ ap (λ (n : ℕ). take 64 (drop n list)) next)
    ∙ ap (take 64) (sym (drop-drop (64 * k) shift list ∙ ap (λ (n : ℕ). drop n list) (sym place)))

-- whole words: all but the last bits of the first one, words on octet boundaries, and the last bits of the last one
pub words-placed : (old one two three src : List Bool) (place count spill next last : ℕ) → 1 ≤ count → spill < 64
    → 64 * count ≤ length src → place + 64 * count ≤ length old
    → one ≡ ored old place (take (64 - spill) src)
    → two ≡ ored one next (take (64 * (count - 1)) (drop (64 - spill) src)) → next ≡ place + (64 - spill)
    → three ≡ ored two last (take spill (drop (64 * count - spill) src)) → last ≡ place + (64 * count - spill)
    → three ≡ ored old place (take (64 * count) src)
words-placed old one two three src place count spill next last some small h room e f p g q =
    more-placed old two three src place (64 * count - spill) spill last (64 * count)
    (more-placed old one two src place (64 - spill) (64 * (count - 1)) next (64 * count - spill) e f p (omega arith)
    (omega arith) (omega arith))
    g q (omega arith) h room
