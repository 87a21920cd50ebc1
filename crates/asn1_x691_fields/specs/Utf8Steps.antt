-- What follows from steps over octets that are UTF-8.
use Rattle.std.proofs.Common.{◌≡◌, ℕ, zero, suc, ◌+◌, ◌-◌, ◌*◌, ◌/◌, ◌%◌, ◌<◌, ◌≤◌, min, List, [], ◌∷◌, ◌++◌, Bool, true, false, cond, ltb, length, take, drop, refl, sym, ◌∙◌, ap, subst, arith, inl, inr}
use Rattle.std.specs.Prelude.{◌&&◌, All}
use Rattle.std.specs.Char.{encode_utf8, len_utf8}
use Rattle.std.specs.Str.{IsUtf8, encode_utf8_all, all_scalars}
use Rattle.std.proofs.Math.Seq.{take-append_seam}
use Rattle.std.proofs.lemmas.Bool.{ltb-true}
use Rattle.std.proofs.lemmas.List.{length-append, append-nil, drop-drop, take-append-drop, take_all}
use Rattle.std.proofs.lemmas.List.Elements.{All-nil, All-cons, All-append}
use Rattle.std.proofs.lemmas.Str.{length-encode, len_utf8_bounds, IsUtf8-append, IsUtf8-drop, IsCharBoundary-from_take}
use Rattle.asn1_bits.specs.Bits.{bits, number}
use Rattle.asn1_bits.specs.Laws.NumberLaws.{same_octets}
use Rattle.asn1_schema.specs.declared.part.Span.{Span}
use Rattle.asn1_schema.specs.CharactersOfParts.{numbers_in}
use Rattle.asn1_schema.specs.PiecesOfParts.{bits_of}
use Rattle.asn1_x691.specs.Contents.{IsUtf8Text}
use Rattle.asn1_x691_fields.specs.Octets.{octets_in}
use Rattle.asn1_x691_fields.specs.ContentSteps.{bits_of_span, bits_of_octets, octets_below, same_span, numbers_length}
use lib.Utf8.{scalar, encode, next, scalar_cases}

-- ---- the octets of a character

pick : (b : Bool) (xs ys : List ℕ) → (b ≡ true → All (λ o. o < 256) xs) → (b ≡ false → All (λ o. o < 256) ys) → All (λ o. o < 256) (cond b xs ys)
pick true xs ys first second = first refl
pick false xs ys first second = second refl

first_below : (x : ℕ) (xs : List ℕ) → x < 256 → All (λ o. o < 256) xs → All (λ o. o < 256) (x ∷ xs)
first_below x xs h t = All-cons (λ o. o < 256) x xs h t

none_below : All (λ o. o < 256) []
none_below = All-nil (λ o. o < 256)

least_scalar : (c : ℕ) → scalar c ≡ true → c < 1114112
least_scalar c s = elim (scalar_cases c s) [ inl p ↦ omega (arith, p) | inr p ↦ p.1 ]

next_below : (bits : ℕ) → next bits < 256
next_below bits = omega arith

encode_below : (c : ℕ) → scalar c ≡ true → All (λ o. o < 256) (encode c)
unfolding encode
encode_below c s =
    let most = least_scalar c s in
    pick (ltb c 128) (c ∷ []) _
    (λ e. let lt = ltb-true c 128 e in first_below c [] (omega (arith, lt)) none_below)
    (λ e. pick (ltb c 2048) ((192 + c / 64) ∷ next c ∷ []) _
    (λ f. let lt = ltb-true c 2048 f in
    first_below (192 + c / 64) (next c ∷ []) (omega (arith, lt)) (first_below (next c) [] (next_below c) none_below))
    (λ f. pick (ltb c 65536) ((224 + c / 4096) ∷ next (c / 64) ∷ next c ∷ []) _
    (λ g. let lt = ltb-true c 65536 g in
    first_below (224 + c / 4096) (next (c / 64) ∷ next c ∷ []) (omega (arith, lt))
    (first_below (next (c / 64)) (next c ∷ []) (next_below (c / 64)) (first_below (next c) [] (next_below c) none_below)))
    (λ g. first_below (240 + c / 262144) (next (c / 4096) ∷ next (c / 64) ∷ next c ∷ []) (omega (arith, most))
    (first_below (next (c / 4096)) (next (c / 64) ∷ next c ∷ []) (next_below (c / 4096))
    (first_below (next (c / 64)) (next c ∷ []) (next_below (c / 64)) (first_below (next c) [] (next_below c) none_below))))))

both_true : (a b : Bool) → (a && b) ≡ true → (a ≡ true) × (b ≡ true)
both_true true true e = (refl, refl)
both_true true false e = absurd cc
both_true false b e = absurd cc

all_below : (cs : List ℕ) → all_scalars cs ≡ true → All (λ o. o < 256) (encode_utf8_all cs)
all_below [] s = none_below
all_below (c ∷ cs) s =
    let p = both_true (scalar c) (all_scalars cs) s in
    All-append (λ o. o < 256) (encode c) (encode_utf8_all cs) (encode_below c p.0) (all_below cs p.1)

utf8_below : (octets : List ℕ) → IsUtf8 octets → All (λ o. o < 256) octets
utf8_below octets u = subst (λ (l : List ℕ). All (λ o. o < 256) l) u.1.1 (all_below u.0 u.1.0)

-- ---- text and its front

-- a text that is not empty begins with one to four octets that are a text
begins_of : (octets : List ℕ) (cs : List ℕ) → all_scalars cs ≡ true → encode_utf8_all cs ≡ octets → 0 < length octets
    → (k : ℕ) × (0 < k) × (k ≤ 4) × (k ≤ length octets) × IsUtf8 (take k octets)
begins_of octets [] s e some = absurd (omega (arith, some, ap length e))
begins_of octets (c ∷ cs) s e some =
    let n = length (encode_utf8 c) in
    let p = both_true (scalar c) (all_scalars cs) s in
    let sized : n ≡ len_utf8 c = length-encode c in
    let bounds = len_utf8_bounds c in
    let all : length octets ≡ n + length (encode_utf8_all cs) =
    ap length (sym e) ∙ length-append (encode_utf8 c) (encode_utf8_all cs) in
    let one : all_scalars (c ∷ []) ≡ true = ap (λ (b : Bool). b && true) p.0 in
    let front : take n octets ≡ encode_utf8_all (c ∷ []) =
    ap (λ (l : List ℕ). take n l) (sym e) ∙ take-append_seam (encode_utf8 c) (encode_utf8_all cs) ∙ sym (append-nil (encode_utf8 c)) in
    (n, omega (arith, sized, bounds.0), omega (arith, sized, bounds.1), omega (arith, all), (c ∷ [], (one, sym front)))

pub text_begins : (octets : List ℕ) → IsUtf8 octets → 0 < length octets
    → (k : ℕ) × (0 < k) × (k ≤ 4) × (k ≤ length octets) × IsUtf8 (take k octets)
text_begins octets u some = begins_of octets u.0 u.1.0 u.1.1 some

text_after : (octets : List ℕ) (k : ℕ) → IsUtf8 octets → k ≤ length octets → IsUtf8 (take k octets) → IsUtf8 (drop k octets)
text_after octets k u h front = IsUtf8-drop octets k u (IsCharBoundary-from_take octets k u h front)

-- ---- octets of a message, and those after the first

pub take_octets : (k count : ℕ) (list : List Bool) → k ≤ count → take k (numbers_in 8 count list) ≡ numbers_in 8 k list
take_octets zero count list h = refl
take_octets (suc k) zero list h = absurd (omega (arith, h))
take_octets (suc k) (suc count) list h =
    ap (λ (l : List ℕ). number (take 8 list) ∷ l) (take_octets k count (drop 8 list) (omega (arith, h)))

drop_octets : (k count : ℕ) (list : List Bool) → k ≤ count → drop k (numbers_in 8 count list) ≡ numbers_in 8 (count - k) (drop (8 * k) list)
drop_octets zero count list h = let e : count ≡ count - 0 = omega arith in ap (λ (n : ℕ). numbers_in 8 n list) e
drop_octets (suc k) zero list h = absurd (omega (arith, h))
drop_octets (suc k) (suc count) list h =
    let a : count - k ≡ suc count - suc k = omega (arith, h) in
    let b : 8 + 8 * k ≡ 8 * suc k = omega arith in
    drop_octets k count (drop 8 list) (omega (arith, h))
    ∙ ap (λ (l : List Bool). numbers_in 8 (count - k) l) (drop-drop (8 * k) 8 list)
    ∙ ap (λ (n : ℕ). numbers_in 8 n (drop (8 + 8 * k) list)) a
    ∙ ap (λ (n : ℕ). numbers_in 8 (suc count - suc k) (drop n list)) b

pub split_octets : (k count at : ℕ) (list : List Bool) → k ≤ count
    → numbers_in 8 count (drop at list) ≡ numbers_in 8 k (drop at list) ++ numbers_in 8 (count - k) (drop (at + 8 * k) list)
split_octets k count at list h =
    let octets = numbers_in 8 count (drop at list) in
    sym (take-append-drop k octets)
    ∙ ap (λ (l : List ℕ). l ++ drop k octets) (take_octets k count (drop at list) h)
    ∙ ap (λ (l : List ℕ). numbers_in 8 k (drop at list) ++ l)
    (drop_octets k count (drop at list) h ∙ ap (λ (l : List Bool). numbers_in 8 (count - k) l) (drop-drop (8 * k) at list))

pub one_more_octet : (count at : ℕ) (list : List Bool)
    → numbers_in 8 (count + 1) (drop at list) ≡ numbers_in 8 count (drop at list) ++ number (take 8 (drop (at + 8 * count) list)) ∷ []
one_more_octet count at list =
    let e : count + 1 - count ≡ 1 = omega arith in
    split_octets count (count + 1) at list (omega arith)
    ∙ ap (λ (n : ℕ). numbers_in 8 count (drop at list) ++ numbers_in 8 n (drop (at + 8 * count) list)) e

-- what follows a front that is a text
module _ (k count at : ℕ) (list : List Bool) (few : k ≤ count) (front : IsUtf8 (numbers_in 8 k (drop at list))) where
  pub text_goes_on : IsUtf8 (numbers_in 8 count (drop at list)) → IsUtf8 (numbers_in 8 (count - k) (drop (at + 8 * k) list))
  text_goes_on u =
      let same = take_octets k count (drop at list) few in
      subst IsUtf8 (drop_octets k count (drop at list) few ∙ ap (λ (l : List Bool). numbers_in 8 (count - k) l) (drop-drop (8 * k) at list))
      (text_after (numbers_in 8 count (drop at list)) k u (omega (arith, few, numbers_length count (drop at list)))
      (subst IsUtf8 (sym same) front))

  pub text_joins : IsUtf8 (numbers_in 8 (count - k) (drop (at + 8 * k) list)) → IsUtf8 (numbers_in 8 count (drop at list))
  text_joins u =
      subst IsUtf8 (sym (split_octets k count at list few))
      (IsUtf8-append (numbers_in 8 k (drop at list)) (numbers_in 8 (count - k) (drop (at + 8 * k) list)) front u)

-- where no front of the first octets is a text, all are none
pub no_text : (list : List Bool) (some count : ℕ) → 0 < count → some ≡ min count 64
    → ((k : ℕ) → 0 < k → k ≤ some → IsUtf8 (numbers_in 8 k list) → ⊥) → IsUtf8 (numbers_in 8 count list) → ⊥
no_text list some count more e none u =
    let size = numbers_length count list in
    let b = text_begins (numbers_in 8 count list) u (omega (arith, more, size)) in
    let few : b.0 ≤ count = omega (arith, b.3, size) in
    none b.0 b.1 (omega (arith, e, few, b.2)) (subst IsUtf8 (take_octets b.0 count list few) b.4)

-- ---- octets of a span

module _ (list : List Bool) (s : Span) (inside : s.at + s.count ≤ length list) (whole : s.count % 8 ≡ 0) where
  pub is_text : IsUtf8 (octets_in list s) → IsUtf8Text (bits_of list s)
  is_text u = (octets_in list s, u, bits_of_span list s inside whole)

  pub is_no_text : (IsUtf8 (octets_in list s) → ⊥) → IsUtf8Text (bits_of list s) → ⊥
  is_no_text none t = none (subst IsUtf8 (sym (same_span list s inside whole t.0 (utf8_below t.0 t.1) t.2)) t.1)

-- ---- all octets of a list of bits

module _ (list : List Bool) (count : ℕ) (all : 8 * count ≡ length list) where
  whole_list : bits (numbers_in 8 count list) ≡ list
  whole_list = bits_of_octets count list (omega (arith, all)) ∙ take_all (8 * count) list (omega (arith, all))

  pub all_text : IsUtf8 (numbers_in 8 count list) → IsUtf8Text list
  all_text u = (numbers_in 8 count list, u, sym whole_list)

  pub no_text_of_all : (IsUtf8 (numbers_in 8 count list) → ⊥) → IsUtf8Text list → ⊥
  no_text_of_all none t =
      none (subst IsUtf8 (sym (same_octets (numbers_in 8 count list) t.0 (octets_below count list) (utf8_below t.0 t.1) (whole_list ∙ t.2))) t.1)

-- what follows the octets before an index, and the first of these
module _ (list : List Bool) (count at k : ℕ) (few : at + k ≤ count) (front : IsUtf8 (numbers_in 8 k (drop (8 * at) list))) where
  same_rest : numbers_in 8 (count - at - k) (drop (8 * at + 8 * k) list) ≡ numbers_in 8 (count - (at + k)) (drop (8 * (at + k)) list)
  same_rest =
      let e : count - at - k ≡ count - (at + k) = omega arith in
      let f : 8 * at + 8 * k ≡ 8 * (at + k) = omega arith in
      ap (λ (n : ℕ). numbers_in 8 n (drop (8 * at + 8 * k) list)) e ∙ ap (λ (n : ℕ). numbers_in 8 (count - (at + k)) (drop n list)) f

  pub rest_is_text : IsUtf8 (numbers_in 8 (count - at) (drop (8 * at) list)) → IsUtf8 (numbers_in 8 (count - (at + k)) (drop (8 * (at + k)) list))
  rest_is_text u = subst IsUtf8 same_rest (text_goes_on k (count - at) (8 * at) list (omega (arith, few)) front u)

  pub rest_joins : IsUtf8 (numbers_in 8 (count - (at + k)) (drop (8 * (at + k)) list)) → IsUtf8 (numbers_in 8 (count - at) (drop (8 * at) list))
  rest_joins u = text_joins k (count - at) (8 * at) list (omega (arith, few)) front (subst IsUtf8 (sym same_rest) u)
