-- Words and the shapes that they name.
use Rattle.std.proofs.Common.{◌≡◌, ◌≢◌, ◌==◌, ℕ, zero, suc, ◌^◌, ◌<◌, List, [], ◌∷◌, ◌++◌, length, map, get_or, decimal, refl, sym, ap, subst, arith, Bor}
use Rattle.std.specs.List.{AllZip, slice_split}
use Rattle.std.proofs.lemmas.Fmt.{decimal_nonempty}
use Rattle.asn1_values.specs.declared.bit_fields.shape.Shape as program
use Rattle.asn1_values.specs.Fields.{Shape, OfNumber, OfOctets, OfBits, OfInteger, OfCharacter, OfCountedInteger, OfIdentifier}
use Rattle.asn1_values.specs.Plain.{plain_shape, plain_shapes}
use Rattle.field_lines.specs.Input.{IsWord, AreWords}

-- ---- one word

-- a letter alone is no letter and number
alone : (a b n : ℕ) → n < 10 ^ 9 → a ∷ [] ≡ b ∷ decimal n → ⊥
alone a b n small e =
    let long : 1 ≡ suc (length (decimal n)) = ap length e in omega (arith, decimal_nonempty n (omega arith))

pub other_letter_alone : (letter : ℕ) → letter ≢ 97 → letter ≢ 99 → (shape : Shape) → IsWord (letter ∷ []) shape → ⊥
other_letter_alone letter a c (OfNumber n) h = alone letter 110 n h.1 h.0
other_letter_alone letter a c (OfOctets n) h = alone letter 111 n h.1 h.0
other_letter_alone letter a c (OfBits n) h = alone letter 98 n h.1 h.0
other_letter_alone letter a c (OfInteger n) h = alone letter 105 n h.1 h.0
other_letter_alone letter a c (OfIdentifier n) h = alone letter 100 n h.1 h.0
other_letter_alone letter a c (OfCharacter alphabet) h = a (let e = h.0 in cc)
other_letter_alone letter a c OfCountedInteger h = c cc

pub other_counted_letter : (letter count : ℕ) → count < 10 ^ 9 → letter ≢ 110 → letter ≢ 111 → letter ≢ 98
    → letter ≢ 105 → letter ≢ 100 → (shape : Shape) → IsWord (letter ∷ decimal count) shape → ⊥
other_counted_letter letter count small n o b i d (OfNumber k) h = n (let e = h.0 in cc)
other_counted_letter letter count small n o b i d (OfOctets k) h = o (let e = h.0 in cc)
other_counted_letter letter count small n o b i d (OfBits k) h = b (let e = h.0 in cc)
other_counted_letter letter count small n o b i d (OfInteger k) h = i (let e = h.0 in cc)
other_counted_letter letter count small n o b i d (OfIdentifier k) h = d (let e = h.0 in cc)
other_counted_letter letter count small n o b i d (OfCharacter alphabet) h = alone 97 letter count small (sym h.0)
other_counted_letter letter count small n o b i d OfCountedInteger h = alone 99 letter count small (sym h)

-- ---- the words of a line

pub words_more : (words : List (Bor (List ℕ))) (shapes : List program.Shape) (word : Bor (List ℕ))
    (shape : program.Shape) → AllZip IsWord (map (λ w. w.now) words) (plain_shapes shapes)
    → IsWord word.now (plain_shape shape)
    → AllZip IsWord (map (λ w. w.now) (words ++ word ∷ [])) (plain_shapes (shapes ++ shape ∷ []))
words_more [] [] word shape each one = (one, tt)
words_more [] (s ∷ shapes) word shape each one = absurd each
words_more (w ∷ words) [] word shape each one = absurd each
words_more (w ∷ words) (s ∷ shapes) word shape each one = (each.0, words_more words shapes word shape each.1 one)

pub no_shape_for : (words : List (List ℕ)) (shapes : List Shape) (i : ℕ) (word : List ℕ) → i < length words
    → word ≡ get_or words i word → ((shape : Shape) → IsWord word shape → ⊥) → AllZip IsWord words shapes → ⊥
no_shape_for [] shapes i word here is none each = omega arith
no_shape_for (w ∷ words) [] i word here is none each = each
no_shape_for (w ∷ words) (s ∷ shapes) zero word here is none each =
    none s (subst (λ (x : List ℕ). IsWord x s) (sym is) each.0)
no_shape_for (w ∷ words) (s ∷ shapes) (suc i) word here is none each =
    no_shape_for words shapes i word (omega arith) is none each.1

pub words_of_line : (line : List ℕ) (shapes : List Shape) → length line ≢ 0 → AreWords line shapes
    → AllZip IsWord (slice_split (λ c. c == 32) line) shapes
words_of_line [] shapes some h = absurd (some refl)
words_of_line (c ∷ cs) shapes some h = h

pub line_of_words : (line : List ℕ) (shapes : List Shape) → length line ≢ 0
    → AllZip IsWord (slice_split (λ c. c == 32) line) shapes → AreWords line shapes
line_of_words [] shapes some h = absurd (some refl)
line_of_words (c ∷ cs) shapes some h = h
