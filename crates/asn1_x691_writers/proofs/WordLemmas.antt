-- A number after the first bits of an octet, in a word.
use Rattle.std.proofs.Common.{◌≡◌, ℕ, suc, ◌+◌, ◌-◌, ◌*◌, ◌/◌, ◌%◌, ◌^◌, ◌<◌, ◌≤◌, List, ◌∷◌, ◌++◌, Bool, false, length, get_or, take, drop, replicate, refl, sym, ap, ◌∙◌, arith, append_assoc}
use Rattle.std.proofs.Math.Nat.{mod-eq_of_lt}
use Rattle.std.proofs.Math.Pow.{pow_mono}
use Rattle.std.proofs.Math.Seq.{take-add, drop-cons}
use Rattle.std.proofs.lemmas.List.{length-append, length-take-le, take_at}
use Rattle.std.proofs.lemmas.Nat.{div-mul-add, mul-add-lt, shl_below, pow-add, pow_pos, div_below}
use Rattle.asn1_bits.specs.Bits.{bits, digits, overwritten}
use Rattle.asn1_bits.specs.Laws.DigitLaws.{length-digits, bits-drop}
use Rattle.asn1_bits.specs.Laws.NumberLaws.{digits-append, digits-low}
use Rattle.asn1_bits.proofs.WindowLemmas.{shifted-digits}

bits-cons : (octet : ℕ) (octets : List ℕ) → bits (octet ∷ octets) ≡ digits octet 8 ++ bits octets
unfolding bits
bits-cons octet octets = refl

-- the first bits of an octet
first_digits : (octet shift : ℕ) → shift < 8 → digits octet 8 ≡ digits (octet / 2 ^ (8 - shift)) shift ++ digits octet (8 - shift)
first_digits octet shift h =
    let e : 8 ≡ shift + (8 - shift) = omega (arith, h) in
    ap (λ (n : ℕ). digits octet n) e ∙ digits-append octet shift (8 - shift)

pub bits_before : (octets : List ℕ) (at : ℕ) → at / 8 < length octets
    → take at (bits octets) ≡ take (8 * (at / 8)) (bits octets) ++ digits (get_or octets (at / 8) 0 / 2 ^ (8 - at % 8)) (at % 8)
bits_before octets at h =
    let q = at / 8 in
    let r = at % 8 in
    let octet = get_or octets q 0 in
    let front = digits (octet / 2 ^ (8 - r)) r in
    let back = digits octet (8 - r) in
    let others = bits (drop (suc q) octets) in
    let few : r < 8 = omega arith in
    let whole : at ≡ 8 * q + r = omega arith in
    let is : drop (8 * q) (bits octets) ≡ front ++ (back ++ others) =
    sym (bits-drop q octets) ∙ ap bits (drop-cons octets q 0 h) ∙ bits-cons octet (drop (suc q) octets)
    ∙ ap (λ (l : List Bool). l ++ others) (first_digits octet r few) ∙ append_assoc front back others in
    ap (λ (n : ℕ). take n (bits octets)) whole
    ∙ take-add (8 * q) r (bits octets)
    ∙ ap (λ (l : List Bool). take (8 * q) (bits octets) ++ take r l) is
    ∙ ap (λ (l : List Bool). take (8 * q) (bits octets) ++ l) (take_at front (back ++ others) r (length-digits (octet / 2 ^ (8 - r)) r))

-- ---- the word

module _ (octet value shift width : ℕ) (few : shift < 8) (small : width ≤ 57) (below : value < 2 ^ width) (byte : octet < 256) where
  abbrev before : ℕ
  before = octet / 2 ^ (8 - shift)

  before_few : before < 2 ^ shift
  before_few =
      let e : 2 ^ shift * 2 ^ (8 - shift) ≡ 2 ^ (shift + (8 - shift)) = sym (pow-add 2 shift (8 - shift)) in
      let f : shift + (8 - shift) ≡ 8 = omega (arith, few) in
      div_below octet (2 ^ (8 - shift)) (2 ^ shift) (pow_pos (8 - shift)) (omega (arith, byte, e, ap (λ (n : ℕ). 2 ^ n) f))

  joined_few : before * 2 ^ width + value < 2 ^ (shift + width)
  joined_few =
      let e : 2 ^ (shift + width) ≡ 2 ^ shift * 2 ^ width = pow-add 2 shift width in
      let l = mul-add-lt before (2 ^ width) value (2 ^ shift) before_few below in
      omega (arith, l, e)

  pub joined_fits : before * 2 ^ width + value < 2 ^ 64
  joined_fits =
      let few : shift + width ≤ 64 = omega (arith, few, small) in
      let up : 2 ^ (shift + width) ≤ 2 ^ 64 = pow_mono few in
      omega (arith, joined_few, up)

  abbrev word : ℕ
  word = (before * 2 ^ width + value) * 2 ^ (64 - shift - width)

  word_few : word < 2 ^ 64
  word_few =
      let rest = 64 - shift - width in
      let e : shift + width + rest ≡ 64 = omega (arith, few, small) in
      let l = shl_below (before * 2 ^ width + value) (shift + width) rest joined_few in
      omega (arith, l, ap (λ (n : ℕ). 2 ^ n) e)

  word_digits : digits word 64 ≡ (digits before shift ++ digits value width) ++ replicate (64 - shift - width) false
  word_digits =
      let rest = 64 - shift - width in
      let u = before * 2 ^ width + value in
      let e : 64 ≡ shift + width + rest = omega (arith, few, small) in
      ap (λ (n : ℕ). digits word n) e
      ∙ shifted-digits u (shift + width) rest
      ∙ ap (λ (l : List Bool). l ++ replicate rest false)
      (digits-append u shift width
      ∙ ap (λ (n : ℕ). digits n shift ++ digits u width) (div-mul-add before (2 ^ width) value below)
      ∙ ap (λ (l : List Bool). digits before shift ++ l) (digits-low before value width))

  -- the bits of octets in which the word is stored
  pub word_stored : (was now : List Bool) (at whole n : ℕ) → at ≡ whole + shift → whole ≤ length was → n ≡ at + width
      → take at was ≡ take whole was ++ digits before shift
      → now ≡ overwritten was whole (digits ((before * 2 ^ width % 2 ^ 64 + value) * 2 ^ (64 - shift - width) % 2 ^ 64) 64)
      → take n now ≡ take at was ++ digits value width
  unfolding overwritten
  word_stored was now at whole n is inside after front e =
      let first : before * 2 ^ width % 2 ^ 64 ≡ before * 2 ^ width = mod-eq_of_lt (omega (arith, joined_fits)) in
      let same : (before * 2 ^ width % 2 ^ 64 + value) * 2 ^ (64 - shift - width) % 2 ^ 64 ≡ word =
      ap (λ (k : ℕ). (k + value) * 2 ^ (64 - shift - width) % 2 ^ 64) first ∙ mod-eq_of_lt word_few in
      let zeros = replicate (64 - shift - width) false in
      let rest = drop (whole + length (digits word 64)) was in
      let A = take whole was in
      let B = digits before shift in
      let C = digits value width in
      let size : length ((A ++ B) ++ C) ≡ n =
      omega (
        arith,
        length-append (A ++ B) C,
        length-append A B,
        length-take-le whole was inside,
        length-digits before shift,
        length-digits value width,
        is,
        after,
      ) in
      ap (λ (l : List Bool). take n l)
      (e ∙ ap (λ (k : ℕ). overwritten was whole (digits k 64)) same
      ∙ ap (λ (l : List Bool). A ++ (l ++ rest)) word_digits
      ∙ ap (λ (l : List Bool). A ++ l) (append_assoc (B ++ C) zeros rest)
      ∙ sym (append_assoc A (B ++ C) (zeros ++ rest))
      ∙ ap (λ (l : List Bool). l ++ (zeros ++ rest)) (sym (append_assoc A B C)))
      ∙ take_at ((A ++ B) ++ C) (zeros ++ rest) n size
      ∙ ap (λ (l : List Bool). l ++ C) (sym front)

-- ---- bits that are written over others

pub over_stored : (was now : List Bool) (at n : ℕ) (more : List Bool) → at ≤ length was → n ≡ at + length more
    → now ≡ overwritten was at more → take n now ≡ take at was ++ more
unfolding overwritten
over_stored was now at n more inside after e =
    let rest = drop (at + length more) was in
    ap (λ (l : List Bool). take n l) (e ∙ sym (append_assoc (take at was) more rest))
    ∙ take_at (take at was ++ more) rest n (omega (arith, length-append (take at was) more, length-take-le at was inside, after))
