-- An input has one answer.
use Rattle.std.proofs.Common.{◌≡◌, ◌≢◌, ◌==◌, ℕ, ◌^◌, ◌<◌, Bool, List, [], ◌∷◌, ◌++◌, get_or, decimal, None, Ok, false, AllPairs, refl, sym, ap, subst, ◌∙◌, arith, inl, inr}
use Rattle.std.specs.List.{AllZip, slice_split, range_with_len}
use Rattle.std.proofs.lemmas.Fmt.{decimal_injective}
use Rattle.std.proofs.lemmas.List.FromFn.{get_or-range_with_len}
use Rattle.std.proofs.lemmas.List.Kept.{AllPairs-cons}
use Rattle.asn1_values.specs.Fields.{Shape, OfNumber, OfOctets, OfBits, OfInteger, OfCharacter, OfCountedInteger, OfIdentifier, GivesOneCodeEach, GivesOneSpelling, GiveOneSpelling}
use Rattle.asn1_values.specs.Words.{Alphabet, Numeric, base_set, code_is_one, effective, same_octets}
use Rattle.hex.specs.Hex.{decode_of}
use Rattle.field_lines.specs.Input.{Lines, AreLines, AreWords, IsLastLine, IsWord}
use Rattle.field_lines.specs.Answer.{Answer, Hold, IsStart, OrElse}
use Rattle.field_lines.proofs.NumberLemmas.{one_number}

-- ---- the lines

one_last : (ends : List (List ℕ)) (a b : List ℕ) → IsLastLine ends a → IsLastLine ends b → a ≡ b
one_last ends a b (inl p) (inl q) = cc
one_last ends a b (inl p) (inr q) = absurd (let e = q.0 in cc)
one_last ends a b (inr p) (inl q) = absurd (let e = p.0 in cc)
one_last ends a b (inr p) (inr q) = let e = p.0 in let f = q.0 in cc

pub one_input : (text : List ℕ) (x y : Lines) → AreLines text x → AreLines text y → x ≡ y
one_input text x y p q =
    let left = p.1 in
    let right = q.1 in
    let shapes : x.shapes ≡ y.shapes = cc in
    let octets : x.octets ≡ y.octets = cc in
    let ends : p.0 ≡ q.0 = cc in
    let start = one_last q.0 x.start y.start (rw ends at p.2) q.2 in
    λ i. record { shapes = shapes i; octets = octets i; start = start i }

-- ---- the words

abbrev letter : Shape → ℕ
letter (OfNumber n) = 110
letter (OfOctets n) = 111
letter (OfBits n) = 98
letter (OfInteger n) = 105
letter (OfIdentifier n) = 100
letter (OfCharacter alphabet) = 97
letter OfCountedInteger = 99

letter_of : (word : List ℕ) (shape : Shape) → IsWord word shape → get_or word 0 0 ≡ letter shape
letter_of word (OfNumber n) h = ap (λ (l : List ℕ). get_or l 0 0) h.0
letter_of word (OfOctets n) h = ap (λ (l : List ℕ). get_or l 0 0) h.0
letter_of word (OfBits n) h = ap (λ (l : List ℕ). get_or l 0 0) h.0
letter_of word (OfInteger n) h = ap (λ (l : List ℕ). get_or l 0 0) h.0
letter_of word (OfIdentifier n) h = ap (λ (l : List ℕ). get_or l 0 0) h.0
letter_of word (OfCharacter alphabet) h = ap (λ (l : List ℕ). get_or l 0 0) h.0
letter_of word OfCountedInteger h = ap (λ (l : List ℕ). get_or l 0 0) h

same_count : (word : List ℕ) (a m n : ℕ) → word ≡ a ∷ decimal m → word ≡ a ∷ decimal n → m < 10 ^ 9 → n < 10 ^ 9 → m ≡ n
same_count word a m n p q small few =
    let same : decimal m ≡ decimal n = cc in decimal_injective m n (omega arith) (omega arith) same

one_shape : (word : List ℕ) (s t : Shape) → IsWord word s → IsWord word t → s ≡ t
one_shape word (OfNumber m) (OfNumber n) p q = ap (λ (k : ℕ). OfNumber k) (same_count word 110 m n p.0 q.0 p.1 q.1)
one_shape word (OfOctets m) (OfOctets n) p q = ap (λ (k : ℕ). OfOctets k) (same_count word 111 m n p.0 q.0 p.1 q.1)
one_shape word (OfBits m) (OfBits n) p q = ap (λ (k : ℕ). OfBits k) (same_count word 98 m n p.0 q.0 p.1 q.1)
one_shape word (OfInteger m) (OfInteger n) p q = ap (λ (k : ℕ). OfInteger k) (same_count word 105 m n p.0 q.0 p.1 q.1)
one_shape word (OfIdentifier m) (OfIdentifier n) p q =
    ap (λ (k : ℕ). OfIdentifier k) (same_count word 100 m n p.0 q.0 p.1 q.1)
one_shape word (OfCharacter a) (OfCharacter b) p q = ap (λ (x : Alphabet). OfCharacter x) (p.1 ∙ sym q.1)
one_shape word OfCountedInteger OfCountedInteger p q = refl
one_shape word s t p q = absurd (omega (arith, letter_of word s p, letter_of word t q))

one_list : (words : List (List ℕ)) (ss ts : List Shape) → AllZip IsWord words ss → AllZip IsWord words ts → ss ≡ ts
one_list [] [] [] p q = refl
one_list [] ss (t ∷ ts) p q = absurd q
one_list [] (s ∷ ss) [] p q = absurd p
one_list (w ∷ words) [] ts p q = absurd p
one_list (w ∷ words) (s ∷ ss) [] p q = absurd q
one_list (w ∷ words) (s ∷ ss) (t ∷ ts) p q =
    let head = one_shape w s t p.0 q.0 in
    let tail = one_list words ss ts p.1 q.1 in
    λ i. head i ∷ tail i

pub one_words : (line : List ℕ) (ss ts : List Shape) → AreWords line ss → AreWords line ts → ss ≡ ts
one_words [] ss ts p q = p ∙ sym q
one_words (c ∷ cs) ss ts p q = one_list (slice_split (λ x. x == 32) (c ∷ cs)) ss ts p q

-- ---- the alphabet of `a`

digits_differ : AllPairs (λ a b. a ≢ b) (range_with_len 48 10)
digits_differ = λ i j d lt within e.
    omega (arith, get_or-range_with_len 48 10 i d (omega arith), get_or-range_with_len 48 10 j d within)

numerals_differ : AllPairs (λ a b. a ≢ b) (base_set Numeric)
unfolding base_set
numerals_differ = AllPairs-cons (λ a b. a ≢ b) 32 (range_with_len 48 10)
    (λ k d within e. omega (arith, get_or-range_with_len 48 10 k d within)) digits_differ

numeric_in_one_code : GivesOneCodeEach (effective Numeric None false)
numeric_in_one_code c j k p q = code_is_one (effective Numeric None false) c j k numerals_differ p q

in_one_code : (word : List ℕ) (shape : Shape) → IsWord word shape → GivesOneSpelling shape
in_one_code word (OfCharacter alphabet) h = subst (λ (a : Alphabet). GivesOneCodeEach a) (sym h.1) numeric_in_one_code
in_one_code word shape h = tt

each_in_one_code : (words : List (List ℕ)) (shapes : List Shape) → AllZip IsWord words shapes → GiveOneSpelling shapes
each_in_one_code [] [] h = tt
each_in_one_code [] (s ∷ shapes) h = absurd h
each_in_one_code (w ∷ words) [] h = absurd h
each_in_one_code (w ∷ words) (s ∷ shapes) h = (in_one_code w s h.0, each_in_one_code words shapes h.1)

pub words_in_one_code : (line : List ℕ) (shapes : List Shape) → AreWords line shapes → GiveOneSpelling shapes
words_in_one_code [] shapes h = subst (λ (s : List Shape). GiveOneSpelling s) (sym h) tt
words_in_one_code (c ∷ cs) shapes h = each_in_one_code (slice_split (λ x. x == 32) (c ∷ cs)) shapes h

-- ---- octets that hold the same bits

pub one_holding : (list : List Bool) (os ps : List ℕ) → Hold os list → Hold ps list → os ≡ ps
one_holding list os ps p q = same_octets os ps p.0 q.0 (p.1 ∙ sym q.1)

-- ---- one step of the answer

pub only_next : {X : Type 0} (IsRight : X → Type 0) (text : List ℕ) (Next : X → Answer → Type 0) (x : X)
    (answer : Answer) → ((y : X) → IsRight y → y ≡ x) → IsRight x → OrElse IsRight text Next answer → Next x answer
only_next IsRight text Next x answer one right (inl h) = subst (λ y. Next y answer) (one h.0 h.1) h.2
only_next IsRight text Next x answer one right (inr h) = absurd (h.0 x right)

pub only_none : {X : Type 0} (IsRight : X → Type 0) (text : List ℕ) (Next : X → Answer → Type 0) (answer : Answer)
    → ((x : X) → ¬ (IsRight x)) → OrElse IsRight text Next answer
    → answer ≡ record { text = text ++ 10 ∷ []; status = 1 }
only_none IsRight text Next answer none (inl h) = absurd (none h.0 h.1)
only_none IsRight text Next answer none (inr h) = h.1

pub one_decoded : (line os ps : List ℕ) → decode_of line ≡ Ok os → decode_of line ≡ Ok ps → ps ≡ os
one_decoded line os ps p q = cc

pub one_start : (line octets : List ℕ) (m n : ℕ) → IsStart line octets m → IsStart line octets n → n ≡ m
one_start line octets m n p q = one_number line n m q.0 p.0
