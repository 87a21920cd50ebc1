-- Octets of two's complement, and the number that they are.
use Rattle.std.proofs.Common.{◌≡◌, ◌≢◌, ℕ, ℤ, pos, negsuc, suc, ◌+◌, ◌-◌, ◌*◌, ◌/◌, ◌^◌, ◌<◌, ◌≤◌, Bool, List, [], ◌∷◌, length, take, drop, sym, ◌∙◌, ap, subst, arith, inr}
use Rattle.std.specs.Prelude.{◌-ℤ◌}
use Rattle.std.proofs.lemmas.Int.{ints}
use Rattle.std.proofs.lemmas.List.{length-take-le, length-drop, take_all}
use Rattle.std.proofs.Math.Nat.{pow-suc}
use Rattle.std.proofs.Math.Seq.{take-add}
use Rattle.asn1_bits.specs.Bits.{number}
use Rattle.asn1_bits.specs.Laws.NumberLaws.{number-append, number-lt}
use Rattle.asn1_number.specs.Octets.{IsOctets, signed, IsShortest}
use Rattle.asn1_number.specs.Order.{NineBitsDiffer}
use Rattle.asn1_number.specs.Laws.OctetLaws.{shortest_from_nine_bits, nine_bits_from_shortest}
use Rattle.asn1_integer.specs.Laws.WordLaws.{IsOctets_from_All, All_from_IsOctets, word_value}
use Rattle.asn1_schema.specs.declared.part.Span.{Span}
use Rattle.asn1_schema.specs.CharactersOfParts.{numbers_in}
use Rattle.asn1_schema.specs.PiecesOfParts.{bits_of, signed_number}
use Rattle.asn1_x691_fields.specs.FirstBits.{nine_differ}
use Rattle.asn1_x691_fields.specs.Numbers.{distance}
use Rattle.asn1_x691_fields.specs.NumberSteps.{IsFewest, far_enough}
use Rattle.asn1_x691_fields.specs.Octets.{octets_in}
use Rattle.asn1_x691_fields.specs.ContentSteps.{octets_below, same_span, numbers_length}
use Rattle.asn1_x691_fields.specs.SignedSteps.{is_positive, is_negative}
use Rattle.asn1_x690.specs.Leaves.{IsInteger}
use Rattle.asn1_x690_leaves.specs.Told.{AreOctetsOf}
use Rattle.asn1_x690_leaves.proofs.SpanSteps.{span_size, span_bits}

module _ (list : List Bool) (s : Span) (h : AreOctetsOf list s) where
  abbrev octs : List ℕ
  octs = octets_in list s

  abbrev contents : List Bool
  contents = bits_of list s

  are_octets : IsOctets octs
  are_octets = IsOctets_from_All octs (octets_below (s.count / 8) (drop s.at list))

  signed_is : 0 < s.count → signed_number contents ≡ signed octs
  signed_is some =
      let size = span_size list s h in
      let w = s.count - 1 in
      let e : length contents ≡ suc w = omega (arith, size, some) in
      let below : number contents < 2 ^ suc w = subst (λ (n : ℕ). number contents < 2 ^ n) e (number-lt contents) in
      let double : 2 ^ suc w ≡ 2 ^ w * 2 = pow-suc 2 w in
      let f : suc w ≡ length contents = sym e in
      let back : suc w - 1 ≡ w = omega arith in
      word_value octs contents (number contents) (suc w) (signed_number contents)
      (octets_below (s.count / 8) (drop s.at list)) (sym (span_bits list s h)) f
      (ap number (sym (take_all (suc w) contents (omega (arith, e))))) (omega arith)
      (λ low. is_positive contents w e (subst (λ (n : ℕ). number contents < 2 ^ n) back low))
      (λ high. (let le = subst (λ (n : ℕ). 2 ^ n ≤ number contents) back high in
      is_negative contents w e le ∙ negative (number contents) (2 ^ w) (2 ^ suc w) double below le))
    where
      negative : (n p q : ℕ) → q ≡ p * 2 → n < q → p ≤ n → negsuc (p - 1 - (n - p)) ≡ (pos n -ℤ pos q)
      negative n p q e lt le = omega (arith, ints, e, lt, le)

  -- ---- minimal octets

  shortest : 0 < s.count → NineBitsDiffer octs → IsInteger (signed_number contents) contents
  shortest some d = (
    octs,
    subst (λ (z : ℤ). IsShortest z octs) (sym (signed_is some)) (shortest_from_nine_bits octs are_octets d),
    span_bits list s h,
  )

  -- octets that are a number differ in their first nine bits
  pub they_differ : (n : ℤ) → IsInteger n contents → NineBitsDiffer octs
  they_differ n p =
      subst (λ (o : List ℕ). NineBitsDiffer o) (sym (same_span list s h.inside h.whole p.0 (All_from_IsOctets p.0 p.1.octets) p.2))
      (nine_bits_from_shortest n p.0 p.1)

  pub no_octet : s.count ≡ 0 → (n : ℤ) → IsInteger n contents → ⊥
  no_octet z n p =
      let same = same_span list s h.inside h.whole p.0 (All_from_IsOctets p.0 p.1.octets) p.2 in
      let f = numbers_length (s.count / 8) (drop s.at list) in
      let g : length octs ≡ length p.0 = ap length same in
      let some = p.1.some in
      omega (arith, z, f, g, some)

  -- ---- one octet

  pub one_octet : s.count ≡ 8 → IsInteger (signed_number contents) contents
  one_octet e =
      let f : octs ≡ number (take 8 (drop s.at list)) ∷ [] =
      ap (λ (n : ℕ). numbers_in 8 (n / 8) (drop s.at list)) e in
      shortest (omega (arith, e)) (subst (λ (o : List ℕ). NineBitsDiffer o) (sym f) tt)

  -- ---- more

  module _ (many : 8 < s.count) where
    abbrev l : List Bool
    l = drop s.at list

    long : 16 ≤ length l
    long = let w = h.whole in let i = h.inside in omega (arith, w, i, many, length-drop s.at list)

    abbrev b : ℕ
    b = number (take 8 l)

    abbrev c : ℕ
    c = number (take 8 (drop 8 l))

    two : octs ≡ b ∷ c ∷ numbers_in 8 (s.count / 8 - 2) (drop 8 (drop 8 l))
    two =
        let w = h.whole in
        let e : s.count / 8 ≡ suc (suc (s.count / 8 - 2)) = omega (arith, w, many) in
        ap (λ (n : ℕ). numbers_in 8 n l) e

    -- the first nine bits, by two octets
    eight_and_one : number (take 9 l) ≡ b * 2 + number (take 1 (drop 8 l))
    eight_and_one =
        let one : length (take 1 (drop 8 l)) ≡ 1 = length-take-le 1 (drop 8 l) (omega (arith, long, length-drop 8 l)) in
        ap number (take-add 8 1 l) ∙ number-append (take 8 l) (take 1 (drop 8 l))
        ∙ ap (λ (n : ℕ). b * 2 ^ n + number (take 1 (drop 8 l))) one

    one_and_seven : (m : ℕ) × (m < 128) × (c ≡ number (take 1 (drop 8 l)) * 128 + m)
    one_and_seven =
        let r = drop 8 l in
        let seven = take 7 (drop 1 r) in
        let size : length seven ≡ 7 = length-take-le 7 (drop 1 r) (omega (arith, long, length-drop 1 r, length-drop 8 l)) in (
          number seven,
          subst (λ (n : ℕ). number seven < 2 ^ n) size (number-lt seven),
          ap number (take-add 1 7 r) ∙ number-append (take 1 r) seven ∙ ap (λ (n : ℕ). number (take 1 r) * 2 ^ n + number seven) size,
        )

    first_bit : number (take 1 (drop 8 l)) < 2
    first_bit =
        let one : length (take 1 (drop 8 l)) ≡ 1 = length-take-le 1 (drop 8 l) (omega (arith, long, length-drop 8 l)) in
        subst (λ (n : ℕ). number (take 1 (drop 8 l)) < 2 ^ n) one (number-lt (take 1 (drop 8 l)))

    abbrev nine : ℕ
    nine = number (take 9 l)

    zeros : NineBitsDiffer (b ∷ c ∷ numbers_in 8 (s.count / 8 - 2) (drop 8 (drop 8 l))) → nine ≡ 0 → ⊥
    zeros d z =
        let e = eight_and_one in
        let o = one_and_seven in
        let lt = o.1 in
        let is = o.2 in
        let none : b ≡ 0 = omega (arith, e, z) in
        let high = d.0 none in
        omega (arith, e, z, lt, is, high)

    ones : NineBitsDiffer (b ∷ c ∷ numbers_in 8 (s.count / 8 - 2) (drop 8 (drop 8 l))) → nine ≡ 511 → ⊥
    ones d z =
        let e = eight_and_one in
        let o = one_and_seven in
        let is = o.2 in
        let f = first_bit in
        let all : b ≡ 255 = omega (arith, e, z, f) in
        let low = d.1 all in
        omega (arith, e, z, is, low, all)

    differ : nine ≢ 0 → nine ≢ 511 → NineBitsDiffer octs
    differ not_zeros not_ones =
        subst (λ (o : List ℕ). NineBitsDiffer o) (sym two) (
          λ z. (let e = eight_and_one in let o = one_and_seven in let is = o.2 in let f = first_bit in omega (arith, e, is, z, not_zeros, f)),
          λ a. (let e = eight_and_one in let o = one_and_seven in let is = o.2 in let lt = o.1 in let f = first_bit in omega (arith, e, is, lt, a, not_ones, f)),
        )

    pub minimal : nine ≢ 0 → nine ≢ 511 → IsInteger (signed_number contents) contents
    minimal p q = shortest (omega (arith, many)) (differ p q)

    pub not_zero : (n : ℤ) → IsInteger n contents → nine ≡ 0 → ⊥
    not_zero n p z = zeros (subst (λ (o : List ℕ). NineBitsDiffer o) two (they_differ n p)) z

    pub not_ones : (n : ℤ) → IsInteger n contents → nine ≡ 511 → ⊥
    not_ones n p z = ones (subst (λ (o : List ℕ). NineBitsDiffer o) two (they_differ n p)) z

    pub is_far : nine ≢ 0 → nine ≢ 511 → 2 ^ (s.count - 9) ≤ distance (signed_number contents)
    is_far p q =
        let w = h.whole in
        let count = s.count / 8 in
        let e : 8 * count ≡ s.count = omega (arith, w) in
        let more : 1 < count = omega (arith, w, many) in
        let inside : s.at + 8 * count ≤ length list = (let i = h.inside in omega (arith, i, e)) in
        let size : length contents ≡ 8 * count = span_size list s h ∙ sym e in
        subst (λ (n : ℕ). 2 ^ (n - 9) ≤ distance (signed_number contents)) e
        (far_enough count contents size more
        (subst (λ (n : ℕ). IsFewest count (number (take n l))) e (inr (nine_differ list s.at count more inside p q))))
