-- Laws of types of one part: contents octets are one value at most, and a value has one.
use Rattle.std.proofs.Common.{◌≡◌, ℕ, ℤ, zero, suc, ◌+◌, ◌%◌, ◌<◌, inl, inr, Bool, true, false, List, [], ◌∷◌, ◌++◌, length, refl, sym, ◌∙◌, ap, subst, arith, Some}
use Rattle.std.specs.Prelude.{All, slice_get}
use Rattle.std.proofs.lemmas.List.{length-append}
use Rattle.std.proofs.lemmas.List.Elements.{All-nil, All-cons}
use Rattle.asn1_bits.specs.Bits.{bits, digits, number}
use Rattle.asn1_bits.specs.Laws.DigitLaws.{length-digits}
use Rattle.asn1_bits.specs.Laws.NumberLaws.{same_octets, number_of-digits}
use Rattle.asn1_number.specs.Octets.{IsOctets}
use Rattle.asn1_number.specs.Laws.OctetLaws.{shortest_once, equal_from_octets}
use Rattle.asn1_schema.specs.Pieces.{Piece, Absent, Enumerated, Unknown}
use Rattle.asn1_schema.specs.Encodings.{EncodesOne, FillsOne}
use Rattle.asn1_schema.specs.Laws.EncodingLaws.{same_fronts}
use Rattle.asn1_x690.specs.declared.fault.FaultKind.TheVariants.{Contents, NotPermitted}
use Rattle.asn1_x690.specs.TypeContents.{valid, permitted_contents}
use Rattle.asn1_schema.specs.declared.tables.TimeKind.{TimeKind}
use Rattle.asn1_x690.specs.Leaves.{truth_octet, IsBoolean, IsNull, IsInteger, IsFirst, IsEnumerated, IsBitString, AreOctets, IsKept, AreCharacters, IsTimeText, leaf_of}
use Rattle.asn1_x690.specs.Laws.ContentsLaws.{valid_are_sound, permitted_contents_are_sound}
use Rattle.asn1_x690.specs.Laws.HeadedLaws.{IsGoodContents}
use Rattle.asn1_x690.specs.Laws.TypeContentsLaws.{leaf_contents_good}

-- contents octets and values, one to one
pub record OneToOne {X : Type 0} (P : X → List Bool → Type 0) : Type 0 where
  pub fills : FillsOne P
  pub encodes : EncodesOne P

pub leaf_of_good : {X : Type 0} (P : X → List Bool → Type 0) (Yes : X → Type 0) (is : X → Piece) (node : ℕ) → OneToOne P
    → ((x y : X) → is x ≡ is y → x ≡ y) → ((x : X) (c : List Bool) → P x c → is x ≡ Absent → ⊥) → IsGoodContents (leaf_of P Yes is node)
leaf_of_good P Yes is node one alike not =
    leaf_contents_good (permitted_contents Yes NotPermitted node (valid P Contents node)) is node
    (permitted_contents_are_sound Yes NotPermitted node (valid P Contents node) (valid_are_sound P Contents node one.fills))
    (record { one = λ x a b p q. one.encodes.one x a b p.0 q.0 }) alike (λ x c p. not x c p.0)

-- ---- BOOLEAN, NULL

same_truth : (x y : Bool) → truth_octet x ≡ truth_octet y → x ≡ y
same_truth false false e = refl
same_truth false true e = absurd (omega (arith, e))
same_truth true false e = absurd (omega (arith, e))
same_truth true true e = refl

below_256 : (x : Bool) → truth_octet x < 256
below_256 false = omega arith
below_256 true = omega arith

same_octet : (m n : ℕ) → m < 256 → n < 256 → digits m 8 ≡ digits n 8 → m ≡ n
same_octet m n p q e = sym (number_of-digits m 8 p) ∙ ap number e ∙ number_of-digits n 8 q

pub boolean_one : OneToOne IsBoolean
boolean_one = record {
  fills = record {
    one = λ list x y p q.
        same_truth x y (same_octet (truth_octet x) (truth_octet y) (below_256 x) (below_256 y) (sym p ∙ q));
  };
  encodes = record { one = λ x a b p q. p ∙ sym q };
}

pub null_one : OneToOne IsNull
null_one = record { fills = record { one = λ list x y p q. refl }; encodes = record { one = λ x a b p q. p ∙ sym q } }

-- ---- INTEGER

all_octets : (octets : List ℕ) → IsOctets octets → All (λ octet. octet < 256) octets
all_octets [] h = All-nil (λ octet. octet < 256)
all_octets (x ∷ xs) h = All-cons (λ octet. octet < 256) x xs h.0 (all_octets xs h.1)

same_integer : (list : List Bool) (m n : ℤ) → IsInteger m list → IsInteger n list → m ≡ n
same_integer list m n p q =
    equal_from_octets m n p.0 q.0 p.1 q.1
    (same_octets p.0 q.0 (all_octets p.0 p.1.octets) (all_octets q.0 q.1.octets) (sym p.2 ∙ q.2))

same_contents : (n : ℤ) (a b : List Bool) → IsInteger n a → IsInteger n b → a ≡ b
same_contents n a b p q = p.2 ∙ ap bits (shortest_once n p.0 q.0 p.1 q.1) ∙ sym q.2

pub integer_one : OneToOne IsInteger
integer_one = record { fills = record { one = same_integer }; encodes = record { one = same_contents } }

-- ---- ENUMERATED

module _ (numbers : List ℤ) where
  same_first : (i j : ℕ) (m n : ℤ) → IsFirst numbers i m → IsFirst numbers j n → m ≡ n → i ≡ j
  same_first i j m n p q e =
      neither i j
      (λ lt. q.1 i lt (p.0 ∙ ap (λ (z : ℤ). Some z) e))
      (λ lt. p.1 j lt (q.0 ∙ ap (λ (z : ℤ). Some z) (sym e)))
    where
      neither : (i j : ℕ) → (i < j → ⊥) → (j < i → ⊥) → i ≡ j
      neither zero zero p q = refl
      neither zero (suc n) p q = absurd (p (omega arith))
      neither (suc m) zero p q = absurd (q (omega arith))
      neither (suc m) (suc n) p q = ap suc (neither m n (λ r. p (omega (arith, r))) (λ r. q (omega (arith, r))))

  same_value : (list : List Bool) (x y : Piece) → IsEnumerated numbers x list → IsEnumerated numbers y list → x ≡ y
  same_value list x y (inl p) (inl q) =
      p.2 ∙ ap Enumerated (same_first p.0 q.0 p.1 q.1 p.3 q.3 (same_integer list p.1 q.1 p.4 q.4)) ∙ sym q.2
  same_value list x y (inl p) (inr q) =
      absurd (q.2 p.0 (p.3.0 ∙ ap (λ (z : ℤ). Some z) (same_integer list p.1 q.0 p.4 q.3)))
  same_value list x y (inr p) (inl q) =
      absurd (p.2 q.0 (q.3.0 ∙ ap (λ (z : ℤ). Some z) (same_integer list q.1 p.0 q.4 p.3)))
  same_value list x y (inr p) (inr q) = p.1 ∙ sym q.1

  known_alike : (i j : ℕ) → Enumerated i ≡ Enumerated j → i ≡ j
  known_alike i j e = cc

  same_number : (i j : ℕ) (m n : ℤ) → i ≡ j → IsFirst numbers i m → IsFirst numbers j n → m ≡ n
  same_number i j m n e p q =
      let f : Some m ≡ Some n = sym p.0 ∙ ap (λ (k : ℕ). slice_get numbers k) e ∙ q.0 in
      cc

  value_contents : (x : Piece) (a b : List Bool) → IsEnumerated numbers x a → IsEnumerated numbers x b → a ≡ b
  value_contents x a b (inl p) (inl q) =
      let e : p.1 ≡ q.1 = same_number p.0 q.0 p.1 q.1 (known_alike p.0 q.0 (sym p.2 ∙ q.2)) p.3 q.3 in
      same_contents q.1 a b (subst (λ (n : ℤ). IsInteger n a) e p.4) q.4
  value_contents x a b (inl p) (inr q) = let e : Enumerated p.0 ≡ Unknown b = sym p.2 ∙ q.1 in absurd cc
  value_contents x a b (inr p) (inl q) = let e : Unknown a ≡ Enumerated q.0 = sym p.1 ∙ q.2 in absurd cc
  value_contents x a b (inr p) (inr q) = let e : Unknown a ≡ Unknown b = sym p.1 ∙ q.1 in cc

  pub enumerated_one : OneToOne (IsEnumerated numbers)
  enumerated_one = record { fills = record { one = same_value }; encodes = record { one = value_contents } }

  pub enumerated_present : (x : Piece) (c : List Bool) → IsEnumerated numbers x c → x ≡ Absent → ⊥
  enumerated_present x c (inl p) e = let f : Enumerated p.0 ≡ Absent = sym p.2 ∙ e in cc
  enumerated_present x c (inr p) e = let f : Unknown c ≡ Absent = sym p.1 ∙ e in cc

-- ---- BIT STRING

few_octets : (n : ℕ) → n < 8 → n < 256
few_octets n p = omega (arith, p)

same_string : (list x y : List Bool) → IsBitString x list → IsBitString y list → x ≡ y
same_string list x y p q =
    let lp = length-digits p.unused 8 in
    let lq = length-digits q.unused 8 in
    let f = same_fronts (digits p.unused 8) (digits q.unused 8) (x ++ digits 0 p.unused) (y ++ digits 0 q.unused)
    (sym p.are ∙ q.are) (lp ∙ sym lq) in
    let u : p.unused ≡ q.unused =
    same_octet p.unused q.unused (few_octets p.unused p.few) (few_octets q.unused q.few) f.0 in
    let lx : length (x ++ digits 0 p.unused) ≡ length x + length (digits 0 p.unused) = length-append x (digits 0 p.unused) in
    let ly : length (y ++ digits 0 q.unused) ≡ length y + length (digits 0 q.unused) = length-append y (digits 0 q.unused) in
    let zp = length-digits 0 p.unused in
    let zq = length-digits 0 q.unused in
    let all : length (x ++ digits 0 p.unused) ≡ length (y ++ digits 0 q.unused) = ap length f.1 in
    (same_fronts x y (digits 0 p.unused) (digits 0 q.unused) f.1 (omega (arith, lx, ly, zp, zq, all, u))).0

same_unused : (n u v : ℕ) → u < 8 → v < 8 → (n + u) % 8 ≡ 0 → (n + v) % 8 ≡ 0 → u ≡ v
same_unused n u v p q r s = omega (arith, p, q, r, s)

string_contents : (x a b : List Bool) → IsBitString x a → IsBitString x b → a ≡ b
string_contents x a b p q =
    let u : p.unused ≡ q.unused = same_unused (length x) p.unused q.unused p.few q.few p.whole q.whole in
    p.are ∙ ap (λ (n : ℕ). digits n 8 ++ (x ++ digits 0 n)) u ∙ sym q.are

pub bit_string_one : OneToOne IsBitString
bit_string_one = record { fills = record { one = same_string }; encodes = record { one = string_contents } }

-- ---- octets as they are

pub octets_one : OneToOne AreOctets
octets_one = record {
  fills = record { one = λ list x y p q. p.0 ∙ sym q.0 };
  encodes = record { one = λ x a b p q. sym p.0 ∙ q.0 };
}

pub kept_one : (Valid : List Bool → Type 0) → OneToOne (IsKept Valid)
kept_one Valid = record {
  fills = record { one = λ list x y p q. p.0 ∙ sym q.0 };
  encodes = record { one = λ x a b p q. sym p.0 ∙ q.0 };
}

-- ---- characters

module _ (width : ℕ) (some : 0 < width) where
  -- an empty list has no character
  no_character : (c : ℕ) (list rest : List Bool) → list ≡ [] → list ≡ digits c width ++ rest → ⊥
  no_character c list rest p q =
      let a : length list ≡ 0 = ap length p in
      let b : length list ≡ length (digits c width) + length rest = ap length q ∙ length-append (digits c width) rest in
      let l = length-digits c width in
      omega (arith, a, b, l, some)

  same_text : (list : List Bool) (x y : List ℕ) → AreCharacters width x list → AreCharacters width y list → x ≡ y
  same_text list [] [] p q = refl
  same_text list [] (d ∷ y) p q = absurd (no_character d list q.0 p q.3)
  same_text list (c ∷ x) [] p q = absurd (no_character c list p.0 q p.3)
  same_text list (c ∷ x) (d ∷ y) p q =
      let f = same_fronts (digits c width) (digits d width) p.0 q.0 (sym p.3 ∙ q.3)
      (length-digits c width ∙ sym (length-digits d width)) in
      let e : c ≡ d = sym (number_of-digits c width p.1) ∙ ap number f.0 ∙ number_of-digits d width q.1 in
      let others = same_text q.0 x y (subst (λ (l : List Bool). AreCharacters width x l) f.1 p.2) q.2 in
      ap (λ (n : ℕ). n ∷ x) e ∙ ap (λ (t : List ℕ). d ∷ t) others

  text_contents : (x : List ℕ) (a b : List Bool) → AreCharacters width x a → AreCharacters width x b → a ≡ b
  text_contents [] a b p q = p ∙ sym q
  text_contents (c ∷ x) a b p q =
      p.3 ∙ ap (λ (l : List Bool). digits c width ++ l) (text_contents x p.0 q.0 p.2 q.2) ∙ sym q.3

  pub characters_one : OneToOne (AreCharacters width)
  characters_one = record { fills = record { one = same_text }; encodes = record { one = text_contents } }

pub time_one : (kind : TimeKind) → OneToOne (IsTimeText kind)
time_one kind =
    let all = characters_one 8 (let some : 0 < 8 = omega arith in some) in
    record {
      fills = record { one = λ list x y p q. all.fills.one list x y p.0 q.0 };
      encodes = record { one = λ x a b p q. all.encodes.one x a b p.0 q.0 };
    }
