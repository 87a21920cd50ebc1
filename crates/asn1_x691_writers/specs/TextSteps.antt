-- What follows of characters that were written.
use Rattle.std.proofs.Common.{◌≡◌, ℕ, zero, suc, ◌+◌, ◌*◌, ◌-◌, ◌^◌, ◌<◌, min, List, [], ◌∷◌, ◌++◌, Bool, length, map, take, drop, refl, sym, ap, ◌∙◌, subst, inl, inr, arith}
use Rattle.std.proofs.lemmas.Bool.{cases_lt}
use Rattle.std.proofs.lemmas.List.{drop-drop, drop_all, length-map, map-append}
use Rattle.asn1_bits.specs.Bits.{number, digits}
use Rattle.asn1_schema.specs.declared.part.Characters.{Characters}
use Rattle.asn1_schema.specs.declared.tables.Range.{Range}
use Rattle.asn1_schema.specs.CharactersOfParts.{character_of, characters_of, numbers_in}
use Rattle.asn1_schema.specs.Encodings.{number as number_of, value_where, anywhere}
use Rattle.asn1_schema.specs.PiecesOfParts.{bits_at}
use Rattle.asn1_x691.specs.declared.fault.FaultKind.TheVariants.{Short, NotInAlphabet}
use Rattle.asn1_x691.specs.Alphabets.{IsIn, width_of, code_of, HasCode}
use Rattle.asn1_x691.specs.Characters.{character}
use Rattle.asn1_x691_writers.specs.Written.{IsGrown, IsWritten}
use Rattle.asn1_x691_writers.specs.FieldSteps.{number_written, then_constant}
use Rattle.asn1_x691_writers.specs.Texts.{AreIn}

-- ---- the characters of a part

numbers_apart : (width m n : ℕ) (list : List Bool)
    → numbers_in width (m + n) list ≡ numbers_in width m list ++ numbers_in width n (drop (width * m) list)
numbers_apart width zero n list =
    let e : zero + n ≡ n = omega arith in
    let f : 0 ≡ width * zero = omega arith in
    ap (λ (k : ℕ). numbers_in width k list) e ∙ ap (λ (k : ℕ). numbers_in width n (drop k list)) f
numbers_apart width (suc m) n list =
    let e : suc m + n ≡ suc (m + n) = omega arith in
    let f : width + width * m ≡ width * suc m = omega arith in
    ap (λ (k : ℕ). numbers_in width k list) e
    ∙ ap (λ (l : List ℕ). number (take width list) ∷ l) (numbers_apart width m n (drop width list))
    ∙ ap (λ (l : List Bool). number (take width list) ∷ numbers_in width m (drop width list) ++ numbers_in width n l)
    (drop-drop (width * m) width list ∙ ap (λ (k : ℕ). drop k list) f)

length_numbers : (width count : ℕ) (list : List Bool) → length (numbers_in width count list) ≡ count
length_numbers width zero list = refl
length_numbers width (suc count) list = ap suc (length_numbers width count (drop width list))

module _ (table : List Range) (list : List Bool) (text : Characters) where
  abbrev F : ℕ → ℕ
  F = character_of table text.codes

  abbrev some : ℕ → ℕ → Characters
  some at count = record { at = at; count = count; width = text.width; codes = text.codes }

  -- a part has as many characters as it says
  pub length_text : length (characters_of table list text) ≡ text.count
  length_text =
      length-map (numbers_in text.width text.count (drop text.at list)) F ∙ length_numbers text.width text.count (drop text.at list)

  -- the first of them, and the others
  pub characters_apart : (m n at : ℕ) → text.count ≡ m + n → drop at list ≡ drop (text.at + text.width * m) list
      → characters_of table list text ≡ characters_of table list (some text.at m) ++ characters_of table list (some at n)
  characters_apart m n at e h =
      ap (λ (k : ℕ). map F (numbers_in text.width k (drop text.at list))) e
      ∙ ap (map F) (numbers_apart text.width m n (drop text.at list))
      ∙ map-append F (numbers_in text.width m (drop text.at list)) (numbers_in text.width n (drop (text.width * m) (drop text.at list)))
      ∙ ap (λ (l : List Bool). map F (numbers_in text.width m (drop text.at list)) ++ map F (numbers_in text.width n l))
      (drop-drop (text.width * m) text.at list ∙ sym h)

  pub first_apart : (n at : ℕ) → text.count ≡ suc n → drop at list ≡ drop (text.at + text.width) list
      → characters_of table list text ≡ F (number (bits_at list text.at text.width)) ∷ characters_of table list (some at n)
  first_apart n at e h =
      ap (λ (k : ℕ). map F (numbers_in text.width k (drop text.at list))) e
      ∙ ap (λ (l : List Bool). F (number (bits_at list text.at text.width)) ∷ map F (numbers_in text.width n l))
      (drop-drop text.width text.at list ∙ sym h)

  pub first_in : (ranges : List Range) → 0 < text.count → AreIn ranges (characters_of table list text)
      → IsIn ranges (F (number (bits_at list text.at text.width)))
  first_in ranges some p =
      let e : text.count ≡ suc (text.count - 1) = omega (arith, some) in
      (subst (λ (l : List ℕ). AreIn ranges l) (first_apart (text.count - 1) (text.at + text.width) e refl) p).0

  pub none_left : text.count ≡ 0 → characters_of table list text ≡ []
  none_left e = ap (λ (k : ℕ). map F (numbers_in text.width k (drop text.at list))) e

-- an index past the end
pub drop_capped : (list : List Bool) (n at : ℕ) → length list < 2 ^ 64 → at ≡ min n (2 ^ 64 - 1) → drop at list ≡ drop n list
drop_capped list n at few e = elim (cases_lt n (2 ^ 64)) [
  | inl lt ↦ let f : at ≡ n = omega (arith, e, lt) in ap (λ (k : ℕ). drop k list) f
  | inr le ↦ drop_all at list (omega (arith, e, le, few)) ∙ sym (drop_all n list (omega (arith, le, few)))
]

-- ---- characters in an alphabet

pub both_in : (ranges : List Range) (xs ys : List ℕ) → AreIn ranges xs → AreIn ranges ys → AreIn ranges (xs ++ ys)
both_in ranges [] ys p q = q
both_in ranges (x ∷ xs) ys p q = (p.0, both_in ranges xs ys p.1 q)

pub in_both : (ranges : List Range) (xs ys : List ℕ) → AreIn ranges (xs ++ ys) → AreIn ranges xs × AreIn ranges ys
in_both ranges [] ys p = (tt, p)
in_both ranges (x ∷ xs) ys p = let q = in_both ranges xs ys p.1 in ((p.0, q.0), q.1)

-- ---- a character

module _ (aligned : Bool) (ranges : List Range) (node : ℕ) where
  pub character_written : (c code width : ℕ) (was now : List ℕ) (old new : ℕ) → IsIn ranges c → code ≡ code_of aligned ranges c
      → width ≡ width_of aligned ranges → code < 2 ^ width → IsGrown was old now new (digits code width)
      → IsWritten aligned (anywhere (character aligned ranges node)) c was old now new
  character_written c code width was now old new within e same few g =
      then_constant aligned was now old new (number_of (width_of aligned ranges) Short node) (λ i d. d)
      (λ i. value_where (λ d. HasCode aligned ranges i d) NotInAlphabet node) code c
      (subst (λ (w : ℕ). IsWritten aligned (anywhere (number_of w Short node)) code was old now new) same
      (number_written aligned width node Short code was now old new few g))
      ((within, e), refl)
