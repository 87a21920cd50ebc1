-- Characters of a message.
use Rattle.std.proofs.Common.{◌≡◌, ℕ, zero, suc, ◌+◌, ◌*◌, ◌/◌, ◌%◌, ◌^◌, ◌<◌, ◌≤◌, Bool, List, [], ◌∷◌, ◌++◌, length, take, drop, refl, sym, ◌∙◌, ap, subst, arith}
use Rattle.std.proofs.lemmas.List.{length-take-le, length-drop, length-append, drop-drop}
use Rattle.std.proofs.Math.Seq.{take-add}
use Rattle.asn1_bits.specs.Bits.{number, digits}
use Rattle.asn1_bits.specs.Laws.DigitLaws.{length-digits}
use Rattle.asn1_bits.specs.Laws.NumberLaws.{number-lt, digits_of-number}
use Rattle.asn1_schema.specs.declared.part.Span.{Span}
use Rattle.asn1_schema.specs.CharactersOfParts.{numbers_in}
use Rattle.asn1_schema.specs.PiecesOfParts.{bits_of}
use Rattle.asn1_x690.specs.Leaves.{AreCharacters}
use Rattle.asn1_x690_leaves.specs.Told.{AreOctetsOf}

-- the first of `left` numbers, and the others
pub first_number : (width left more at : ℕ) (list : List Bool) → more + 1 ≡ left
    → numbers_in width left (drop at list) ≡ number (take width (drop at list)) ∷ numbers_in width more (drop (at + width) list)
first_number width zero more at list e = absurd (omega (arith, e))
first_number width (suc left) more at list e =
    let same : left ≡ more = omega (arith, e) in
    ap (λ (l : List Bool). number (take width (drop at list)) ∷ numbers_in width left l) (drop-drop width at list)
    ∙ ap (λ (n : ℕ). number (take width (drop at list)) ∷ numbers_in width n (drop (at + width) list)) same

pub numbers_count : (width count : ℕ) (list : List Bool) → length (numbers_in width count list) ≡ count
numbers_count width zero list = refl
numbers_count width (suc count) list = omega (arith, numbers_count width count (drop width list))

pub are_characters : (width count : ℕ) (list : List Bool) → width * count ≤ length list
    → AreCharacters width (numbers_in width count list) (take (width * count) list)
are_characters width zero list h = let e : width * 0 ≡ 0 = omega arith in ap (λ (n : ℕ). take n list) e
are_characters width (suc count) list h =
    let e : width * suc count ≡ width + width * count = omega arith in
    let size : length (take width list) ≡ width = length-take-le width list (omega (arith, h, e)) in (
      take (width * count) (drop width list),
      subst (λ (n : ℕ). number (take width list) < 2 ^ n) size (number-lt (take width list)),
      are_characters width count (drop width list) (omega (arith, h, e, length-drop width list)),
      ap (λ (n : ℕ). take n list) e ∙ take-add width (width * count) list
          ∙ ap (λ (l : List Bool). l ++ take (width * count) (drop width list)) (sym (digits_of-number (take width list) width size)),
    )

pub whole_count : (n w : ℕ) → 0 < w → n % w ≡ 0 → w * (n / w) ≡ n
whole_count n w some e = omega (arith, some, e)

-- whole octets are a number of characters
pub characters : (list : List Bool) (s : Span) (w : ℕ) → AreOctetsOf list s → 0 < w → s.count % w ≡ 0
    → AreCharacters w (numbers_in w (s.count / w) (drop s.at list)) (bits_of list s)
characters list s w h some e =
    let f = whole_count s.count w some e in
    let i = h.inside in
    subst (λ (n : ℕ). AreCharacters w (numbers_in w (s.count / w) (drop s.at list)) (take n (drop s.at list))) f
    (are_characters w (s.count / w) (drop s.at list) (omega (arith, f, i, length-drop s.at list)))

-- characters have `width` bits each
pub text_size : (width : ℕ) (text : List ℕ) (list : List Bool) → AreCharacters width text list → length list ≡ width * length text
text_size width [] list p = ap length p ∙ omega arith
text_size width (c ∷ text) list p =
    let a = length-digits c width in
    let b = text_size width text p.0 p.2 in
    let e : length list ≡ length (digits c width) + length p.0 = ap length p.3 ∙ length-append (digits c width) p.0 in
    let f : width * suc (length text) ≡ width + width * length text = omega arith in
    omega (arith, a, b, e, f)
