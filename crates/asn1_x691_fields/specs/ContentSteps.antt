-- What follows from steps over octets that are kept by their contents.
use Rattle.std.proofs.Common.{◌≡◌, ℕ, zero, suc, ◌+◌, ◌*◌, ◌/◌, ◌%◌, ◌<◌, ◌≤◌, List, [], ◌∷◌, ◌++◌, Bool, true, false, not, length, take, drop, refl, sym, ◌∙◌, ap, subst, arith, Option, Some, None, is_some, inl, inr}
use Rattle.std.specs.Prelude.{nat_lt, nat_le, ◌&&◌, ◌==◌, if◌then◌else◌, All}
use Rattle.std.proofs.Math.Seq.{take-add}
use Rattle.std.proofs.lemmas.Bool.{cases_lt, lt-ltb, le-ltb, ne_eqb}
use Rattle.std.proofs.lemmas.Bool.Decides.{nat_tests}
use Rattle.std.proofs.lemmas.List.{drop-drop, length-take, length-take-le, length-drop, length-append}
use Rattle.std.proofs.lemmas.List.Elements.{All-nil, All-cons, All-append}
use Rattle.asn1_bits.specs.Bits.{bits, digits, number}
use Rattle.asn1_bits.specs.Laws.NumberLaws.{number-below, digits_of-number, same_octets}
use Rattle.asn1_oid.specs.Contents.{IsSeries, AreSubidentifiers, IsContents, subidentifiers}
use Rattle.asn1_oid.specs.Reading.{with_front, numbers_from, numbers_of, first_arc, second_arc}
use Rattle.asn1_oid.specs.Laws.ReadingLaws.{subidentifiers_read, subidentifiers_are_read, numbers_back, valid_back}
use Rattle.asn1_schema.specs.declared.part.Span.{Span}
use Rattle.asn1_schema.specs.CharactersOfParts.{numbers_in}
use Rattle.asn1_schema.specs.PiecesOfParts.{bits_of}
use Rattle.asn1_x691_fields.specs.Octets.{octets_in, are_series}
use Rattle.asn1_x691.specs.Contents.{IsObjectIdentifier, IsRelativeIdentifier}

-- ---- octets of a message, at any bit

-- they are octets
pub octets_below : (count : ℕ) (list : List Bool) → All (λ octet. octet < 256) (numbers_in 8 count list)
octets_below zero list = All-nil (λ octet. octet < 256)
octets_below (suc count) list =
    let few : length (take 8 list) ≤ 8 = omega (arith, length-take 8 list) in
    All-cons (λ octet. octet < 256) (number (take 8 list)) (numbers_in 8 count (drop 8 list))
    (number-below (take 8 list) 8 few) (octets_below count (drop 8 list))

bits_of_one : (octet : ℕ) (octets : List ℕ) → bits (octet ∷ octets) ≡ digits octet 8 ++ bits octets
unfolding bits
bits_of_one octet octets = refl

no_bits : bits [] ≡ []
unfolding bits
no_bits = refl

pub bits_of_octets : (count : ℕ) (list : List Bool) → 8 * count ≤ length list → bits (numbers_in 8 count list) ≡ take (8 * count) list
bits_of_octets zero list h = no_bits
bits_of_octets (suc count) list h =
    let many : 8 * suc count ≡ 8 + 8 * count = omega arith in
    let left : 8 * count ≤ length (drop 8 list) = omega (arith, h, length-drop 8 list) in
    bits_of_one (number (take 8 list)) (numbers_in 8 count (drop 8 list))
    ∙ ap (λ (l : List Bool). l ++ bits (numbers_in 8 count (drop 8 list)))
    (digits_of-number (take 8 list) 8 (length-take-le 8 list (omega (arith, h))))
    ∙ ap (λ (l : List Bool). take 8 list ++ l) (bits_of_octets count (drop 8 list) left)
    ∙ sym (take-add 8 (8 * count) list) ∙ ap (λ (n : ℕ). take n list) (sym many)

module _ (list : List Bool) (s : Span) (inside : s.at + s.count ≤ length list) (whole : s.count % 8 ≡ 0) where
  pub bits_of_span : bits_of list s ≡ bits (octets_in list s)
  bits_of_span =
      let many : 8 * (s.count / 8) ≡ s.count = omega (arith, whole) in
      sym (bits_of_octets (s.count / 8) (drop s.at list) (omega (arith, inside, many, length-drop s.at list))
      ∙ ap (λ (n : ℕ). take n (drop s.at list)) many)

  -- no other octets have these bits
  pub same_span : (octets : List ℕ) → All (λ octet. octet < 256) octets → bits_of list s ≡ bits octets → octets_in list s ≡ octets
  same_span octets below e = same_octets (octets_in list s) octets (octets_below (s.count / 8) (drop s.at list)) below (sym bits_of_span ∙ e)

pub numbers_length : (count : ℕ) (list : List Bool) → length (numbers_in 8 count list) ≡ count
numbers_length zero list = refl
numbers_length (suc count) list = omega (arith, numbers_length count (drop 8 list))

-- the first of `left` octets, and the others
pub first_octet : (left more at : ℕ) (list : List Bool) → more + 1 ≡ left
    → numbers_in 8 left (drop at list) ≡ number (take 8 (drop at list)) ∷ numbers_in 8 more (drop (at + 8) list)
first_octet zero more at list e = absurd (omega (arith, e))
first_octet (suc left) more at list e =
    let same : left ≡ more = omega (arith, e) in
    ap (λ (l : List Bool). number (take 8 (drop at list)) ∷ numbers_in 8 left l) (drop-drop 8 at list)
    ∙ ap (λ (n : ℕ). number (take 8 (drop at list)) ∷ numbers_in 8 n (drop (at + 8) list)) same

pub no_octets : (left : ℕ) (list : List Bool) → left ≡ 0 → numbers_in 8 left list ≡ []
no_octets zero list z = refl
no_octets (suc left) list z = absurd (omega (arith, z))

-- ---- subidentifiers (X.690 8.19.2)

-- one octet, which is not 80 (hexadecimal) where it is the first of a subidentifier
pub octet_passes : (begun : Bool) (octet : ℕ) (octets : List ℕ) → (begun ≡ false → octet ≡ 128 → ⊥)
    → are_series begun (octet ∷ octets) ≡ are_series (nat_le 128 octet) octets
octet_passes true octet octets first = elim (cases_lt octet 128) [
  | inl lt ↦ let e : nat_le 128 octet ≡ false = grind (arith, nat_tests) in rw (lt-ltb octet 128 lt, e) refl
  | inr le ↦ let e : nat_le 128 octet ≡ true = grind (arith, nat_tests) in rw (le-ltb octet 128 le, e) refl
]
octet_passes false octet octets first = elim (cases_lt octet 128) [
  | inl lt ↦ let e : nat_le 128 octet ≡ false = grind (arith, nat_tests) in rw (ne_eqb octet 128 (first refl), lt-ltb octet 128 lt, e) refl
  | inr le ↦ let e : nat_le 128 octet ≡ true = grind (arith, nat_tests) in rw (ne_eqb octet 128 (first refl), le-ltb octet 128 le, e) refl
]

some_front : (front : List ℕ) (numbers : Option (List ℕ)) → is_some (with_front front numbers) ≡ is_some numbers
some_front front (Some numbers) = refl
some_front front None = refl

none_left : (begun : Bool) (n : ℕ) → not begun ≡ is_some (numbers_from begun n [])
unfolding numbers_from
none_left true n = refl
none_left false n = refl

one_octet : (a b : Bool) (p q : Bool) (P Q : Option (List ℕ)) (front : List ℕ) → p ≡ is_some P → q ≡ is_some Q
    → (if a then false else (if b then p else q)) ≡ is_some (if a then None else (if b then with_front front P else Q))
one_octet true b p q P Q front e f = refl
one_octet false true p q P Q front e f = e ∙ sym (some_front front P)
one_octet false false p q P Q front e f = f

series_is_some : (begun : Bool) (n : ℕ) (octets : List ℕ) → are_series begun octets ≡ is_some (numbers_from begun n octets)
unfolding numbers_from
series_is_some begun n [] = none_left begun n
series_is_some begun n (octet ∷ octets) =
    one_octet (not begun && octet == 128) (nat_lt octet 128) (are_series false octets) (are_series true octets) (numbers_from false 0 octets)
    (numbers_from true (128 * n + octet % 128) octets) ((128 * n + octet % 128) ∷ []) (series_is_some false 0 octets)
    (series_is_some true (128 * n + octet % 128) octets)

the_some : (o : Option (List ℕ)) → is_some o ≡ true → (numbers : List ℕ) × (o ≡ Some numbers)
the_some (Some numbers) e = (numbers, refl)
the_some None e = absurd cc

pub series_read : (octets : List ℕ) → All (λ octet. octet < 256) octets → are_series false octets ≡ true
    → (numbers : List ℕ) × AreSubidentifiers numbers octets
series_read octets below e =
    let numbers = the_some (numbers_of octets) (sym (series_is_some false 0 octets) ∙ e) in
    (numbers.0, subidentifiers_read octets numbers.0 below numbers.1)

pub read_series : (numbers octets : List ℕ) → AreSubidentifiers numbers octets → are_series false octets ≡ true
read_series numbers octets s = series_is_some false 0 octets ∙ ap is_some (subidentifiers_are_read numbers octets s)

-- octets of subidentifiers are octets
octets_of_one : (octets : List ℕ) → IsSeries octets → All (λ octet. octet < 256) octets
octets_of_one [] s = absurd s
octets_of_one (octet ∷ octets) (inl p) =
    let below : octet < 256 = omega (arith, p.0) in
    subst (λ (l : List ℕ). All (λ o. o < 256) (octet ∷ l)) (sym p.1)
    (All-cons (λ o. o < 256) octet [] below (All-nil (λ o. o < 256)))
octets_of_one (octet ∷ octets) (inr p) = All-cons (λ o. o < 256) octet octets p.1 (octets_of_one octets p.2)

octets_of_series : (numbers octets : List ℕ) → AreSubidentifiers numbers octets → All (λ octet. octet < 256) octets
octets_of_series [] octets s = subst (λ (l : List ℕ). All (λ o. o < 256) l) (sym s) (All-nil (λ o. o < 256))
octets_of_series (n ∷ numbers) octets s =
    subst (λ (l : List ℕ). All (λ o. o < 256) l) (sym s.4)
    (All-append (λ o. o < 256) s.0 s.1 (octets_of_one s.0 s.2.series) (octets_of_series numbers s.1 s.3))

series_some : (octets : List ℕ) → IsSeries octets → 0 < length octets
series_some [] s = absurd s
series_some (octet ∷ octets) s = omega arith

no_subidentifiers : (numbers octets : List ℕ) → 1 ≤ length numbers → AreSubidentifiers numbers octets → length octets ≡ 0 → ⊥
no_subidentifiers [] octets some s z = absurd (omega (arith, some))
no_subidentifiers (n ∷ numbers) octets some s z =
    omega (arith, z, ap length s.4, length-append s.0 s.1, series_some s.0 s.2.series)

-- ---- identifiers

object_of : (numbers octets : List ℕ) → 1 ≤ length numbers → AreSubidentifiers numbers octets
    → (arcs : List ℕ) × IsContents arcs octets
object_of [] octets some s = absurd (omega (arith, some))
object_of (n ∷ numbers) octets some s = (
  first_arc n ∷ second_arc n ∷ numbers,
  record {
    valid = valid_back n numbers;
    two = omega arith;
    spelled = subst (λ (l : List ℕ). AreSubidentifiers l octets) (sym (numbers_back n numbers)) s;
  },
)

numbers_some : (arcs : List ℕ) → 2 ≤ length arcs → 1 ≤ length (subidentifiers arcs)
numbers_some [] two = absurd (omega (arith, two))
numbers_some (x ∷ []) two = absurd (omega (arith, two))
numbers_some (x ∷ y ∷ arcs) two = omega arith

pub object_identifier : (list : List Bool) → IsRelativeIdentifier list → IsObjectIdentifier list
object_identifier list r = let o = object_of r.0 r.1 r.2 r.3 in (o.0, r.1, o.1, r.4)

pub relative_identifier : (list : List Bool) → IsObjectIdentifier list → IsRelativeIdentifier list
relative_identifier list o = (subidentifiers o.0, o.1, numbers_some o.0 o.2.two, o.2.spelled, o.3)

-- octets of a span that are subidentifiers, one at least
module _ (list : List Bool) (s : Span) (inside : s.at + s.count ≤ length list) (whole : s.count % 8 ≡ 0) where
  number_of_octets : (numbers : List ℕ) → AreSubidentifiers numbers (octets_in list s) → 0 < s.count → 1 ≤ length numbers
  number_of_octets [] a some =
      let e : length (octets_in list s) ≡ 0 = ap length a in
      let f = numbers_length (s.count / 8) (drop s.at list) in
      absurd (omega (arith, e, f, some, whole))
  number_of_octets (n ∷ numbers) a some = omega arith

  pub are_identifier : 0 < s.count → are_series false (octets_in list s) ≡ true → IsRelativeIdentifier (bits_of list s)
  are_identifier some e =
      let r = series_read (octets_in list s) (octets_below (s.count / 8) (drop s.at list)) e in
      (r.0, octets_in list s, number_of_octets r.0 r.1 some, r.1, bits_of_span list s inside whole)

  pub are_no_identifier : are_series false (octets_in list s) ≡ false → IsRelativeIdentifier (bits_of list s) → ⊥
  are_no_identifier e r =
      let same = same_span list s inside whole r.1 (octets_of_series r.0 r.1 r.3) r.4 in
      let f : true ≡ false = sym (read_series r.0 r.1 r.3) ∙ ap (are_series false) (sym same) ∙ e in
      absurd cc

  pub empty_is_none : s.count ≡ 0 → IsRelativeIdentifier (bits_of list s) → ⊥
  empty_is_none z r =
      let same = same_span list s inside whole r.1 (octets_of_series r.0 r.1 r.3) r.4 in
      let f = numbers_length (s.count / 8) (drop s.at list) in
      no_subidentifiers r.0 r.1 r.2 r.3 (omega (arith, ap length same, f, z))
