-- How many values the parts of a type are: one lemma a combinator.
use Rattle.std.proofs.Common.{◌≡◌, ℕ, zero, suc, ◌+◌, Bool, true, false, List, [], ◌∷◌, ◌++◌, refl, sym, ◌∙◌, ap, subst, arith, inl, inr, append_assoc, zero-add, add-zero}
use Rattle.std.proofs.lemmas.List.{append-nil}
use Rattle.std.specs.Prelude.{⊤}
use Rattle.asn1_schema.specs.declared.misfit.MisfitKind.{MisfitKind}
use Rattle.asn1_schema.specs.Pieces.{Piece, Absent, Parts}
use Rattle.asn1_schema.specs.Encodings.{Encoding, Contents, with_bits}
use Rattle.asn1_schema.specs.TypeEncodings.{TypeEncoding, AfterHeader, Misfit, nothing, invalid_type, both, several, part, leaf, put, header, except_type, both_by_bits, several_by_bits, end_of_components, mandatory, optional, only_where, by_bit, either_by_bit, enclosed}
use Rattle.asn1_schema.specs.Values.{held_by, AreValues, none, more}

-- ---- values

-- `k` values, and `m` after them
pub values_append : (m : ℕ) (ys : Parts) {k : ℕ} {xs : Parts} → AreValues k xs → AreValues m ys → AreValues (k + m) (xs ++ ys)
values_append m ys none w = subst (λ (i : ℕ). AreValues i ys) (sym (zero-add m)) w
values_append m ys (more {n} p {held} {others} h o) w =
    let count : suc n + m ≡ suc (n + m) = omega arith in
    subst (λ (i : ℕ). AreValues i ((p ∷ (held ++ others)) ++ ys)) (sym count)
    (subst (λ (zs : Parts). AreValues (suc (n + m)) (p ∷ zs)) (sym (append_assoc held others ys)) (more p h (values_append m ys o w)))

-- a piece, and the values that it holds
pub one_value : (p : Piece) (held : Parts) → AreValues (held_by p) held → AreValues 1 (p ∷ held)
one_value p held h = subst (λ (zs : Parts). AreValues 1 (p ∷ zs)) (append-nil held) (more p h none)

pub as_many : {n m : ℕ} {parts : Parts} → n ≡ m → AreValues n parts → AreValues m parts
as_many {n} {m} {parts} e v = subst (λ (i : ℕ). AreValues i parts) e v

pub same_parts : {n : ℕ} {parts others : Parts} → others ≡ parts → AreValues n parts → AreValues n others
same_parts {n} {parts} {others} e v = subst (λ (zs : Parts). AreValues n zs) (sym e) v

-- ---- types

-- the parts of each value of a type are `n` values
abbrev pub GivesValues : {K : Type 0} → ℕ → (ℕ → TypeEncoding K) → Type 0
GivesValues n A = (at : ℕ) (parts : Parts) (list : List Bool) → (A at).encoding.encodes parts list → AreValues n parts

-- the same of what follows a header
abbrev pub GivesAfter : {K X : Type 0} → ℕ → (ℕ → AfterHeader K X) → Type 0
GivesAfter n F = (at : ℕ) (x : _) (parts : Parts) (list : List Bool) → ((F at).after x).encodes parts list → AreValues n parts

pub nothing_gives : (K : Type 0) → GivesValues 0 (nothing {K = K})
nothing_gives K at parts list p = same_parts p.0 none

pub invalid_gives : {K : Type 0} (n : ℕ) (fault : K) (misfit : MisfitKind) (node : ℕ) → GivesValues n (invalid_type fault misfit node)
invalid_gives n fault misfit node at parts list p = absurd p

module _ {K : Type 0} (A B : ℕ → TypeEncoding K) (n m : ℕ) where
  pub both_gives : GivesValues n A → GivesValues m B → GivesValues (n + m) (both A B)
  both_gives a b at parts list p =
      same_parts p.is (values_append m p.after (a at p.value p.front p.first) (b _ p.after p.rest p.second))

module _ {K : Type 0} (A : ℕ → TypeEncoding K) where
  pub several_gives : GivesValues 1 A → (n : ℕ) → GivesValues n (several A n)
  several_gives a zero at parts list p = nothing_gives K at parts list p
  several_gives a (suc n) at parts list p =
      as_many (omega arith) (both_gives A (several A n) 1 n a (several_gives a n) at parts list p)

module _ {K X : Type 0} (A : ℕ → Encoding K X) (is : X → Piece) where
  pub part_gives : (B : X → ℕ → TypeEncoding K) (node : ℕ) → ((x : X) → GivesValues (held_by (is x)) (B x)) → GivesValues 1 (part A is B node)
  part_gives B node b at parts list p = same_parts p.is (one_value (is p.value) p.after (b p.value _ p.after p.rest p.second))

  pub leaf_gives : (node : ℕ) → ((x : X) → held_by (is x) ≡ 0) → GivesValues 1 (leaf A is node)
  leaf_gives node e = part_gives (λ x. nothing) node (λ x at parts list p. as_many (sym (e x)) (nothing_gives K at parts list p))

pub put_gives : {K : Type 0} (p : Piece) (A : ℕ → TypeEncoding K) (node : ℕ) → GivesValues (held_by p) A → GivesValues 1 (put p A node)
put_gives p A node a at parts list q = same_parts q.is (one_value p q.after (a _ q.after q.rest q.second))

pub header_gives : {K X : Type 0} (H : Encoding K X) (width : ℕ) (B : ℕ → AfterHeader K X) (node n : ℕ) → GivesAfter n B
    → GivesValues n (header H width B node)
header_gives H width B node n b at parts list p = same_parts p.is (b _ p.value p.after p.rest p.second)

pub except_gives : {K : Type 0} (C : ℕ → List Bool → Type 0) (fault : K) (misfit : MisfitKind) (node n : ℕ) (A : ℕ → TypeEncoding K)
    → GivesValues n A → GivesValues n (λ at. except_type (C at) fault misfit node (A at))
except_gives C fault misfit node n A a at parts list p = a at parts list p.0

module _ {K : Type 0} (A : List Bool → ℕ → TypeEncoding K) where
  pub several_by_bits_gives : ((before : List Bool) → GivesValues 1 (A before)) → (n : ℕ) (before : List Bool)
      → GivesValues n (several_by_bits A before n)
  several_by_bits_gives a zero before at parts list p = nothing_gives K at parts list p
  several_by_bits_gives a (suc n) before at parts list p =
      as_many (omega arith)
      (same_parts p.is (values_append n p.after (a before at p.value.0 p.front p.first.0) (several_by_bits_gives a n p.value.1 _ p.after p.rest p.second)))

-- ---- components

pub end_gives : {K : Type 0} (fault : K) (node : ℕ) → GivesAfter 0 (end_of_components fault node)
end_gives fault node at [] parts list p = same_parts p.0 none
end_gives fault node at (b ∷ bits) parts list p = absurd p

module _ {K : Type 0} (A : ℕ → TypeEncoding K) (F : ℕ → AfterHeader K (List Bool)) (n : ℕ) where
  pub mandatory_gives : GivesValues 1 A → GivesAfter n F → GivesAfter (suc n) (mandatory A F)
  mandatory_gives a f at bits parts list p =
      as_many (omega arith) (same_parts p.is (values_append n p.after (a at p.value p.front p.first) (f _ bits p.after p.rest p.second)))

  pub optional_gives : (fault : K) (node : ℕ) → GivesValues 1 A → GivesAfter n F → GivesAfter (suc n) (optional fault node A F)
  optional_gives fault node a f at [] parts list p = absurd p
  optional_gives fault node a f at (false ∷ bits) parts list p =
      as_many (omega arith)
      (same_parts p.is (values_append n p.after (same_parts p.first.0 (one_value Absent [] none)) (f _ bits p.after p.rest p.second)))
  optional_gives fault node a f at (true ∷ bits) parts list p =
      as_many (omega arith) (same_parts p.is (values_append n p.after (a at p.value p.front p.first) (f _ bits p.after p.rest p.second)))

module _ {K X : Type 0} (test : X → Bool) (fault : K) (misfit : MisfitKind) (node n : ℕ) (B : ℕ → AfterHeader K X) where
  pub only_where_gives : GivesAfter n B → GivesAfter n (only_where test fault misfit node B)
  only_where_gives b at x parts list (inl p) = b at x parts list p.1
  only_where_gives b at x parts list (inr p) = absurd p.1

module _ {K : Type 0} (P : Piece → Type 0) (node n : ℕ) (A B : ℕ → TypeEncoding K) where
  pub either_gives : GivesValues n A → GivesValues n B → GivesAfter n (either_by_bit P node A B)
  either_gives a b at false parts list p = a at parts list p
  either_gives a b at true parts list p = b at parts list p

-- ---- a value in bits of its own

module _ {K : Type 0} (H : ℕ → Encoding K (⊤ × List Bool)) (F : Contents K Parts) (W : Parts → Misfit → Type 0) (node n : ℕ) where
  pub enclosed_gives : ((parts : Parts) (list : List Bool) → F.fills parts list → AreValues n parts) → GivesValues n (enclosed H F W node)
  enclosed_gives f at parts list p = f parts p.0.1 p.2
