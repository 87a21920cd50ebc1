-- Laws of positions: encodings that depend on a phase of their position alone, such as how many bits of an octet precede it. A value
-- has the same encodings at two positions of one phase.
use Rattle.std.proofs.Common.{◌≡◌, ℕ, zero, suc, ◌+◌, inl, inr, Bool, true, false, List, [], ◌∷◌, ◌++◌, length, sym}
use Rattle.std.specs.Prelude.{⊤}
use Rattle.asn1_schema.specs.Pieces.{Piece, Absent, Parts}
use Rattle.asn1_schema.specs.Encodings.{Encoding, Contents, constant, invalid, cases, anywhere, with_bits, in_turn, in_case, permitted}
use Rattle.asn1_schema.specs.TypeEncodings.{TypeEncoding, AfterHeader, nothing, both, several, part, leaf, put, header, except_type, both_by_bits, several_by_bits, end_of_components, mandatory, optional, only_where, either_by_bit, enclosed}

-- `n` bits more keep two positions of one phase
pub record Shifts (phase : ℕ → ℕ) : Type 0 where
  pub on : (p q n : ℕ) → phase p ≡ phase q → phase (p + n) ≡ phase (q + n)

-- what holds at a position holds at each other of its phase
pub record Agrees {X : Type 0} (phase : ℕ → ℕ) (P : ℕ → X → List Bool → Type 0) : Type 0 where
  pub same : (p q : ℕ) → phase p ≡ phase q → (x : X) (list : List Bool) → P p x list → P q x list

-- of encodings, of types, and of what follows a header
abbrev pub Agree : {K X : Type 0} → (ℕ → ℕ) → (ℕ → Encoding K X) → Type 0
Agree phase A = Agrees phase (λ at. (A at).encodes)

abbrev pub TypesAgree : {K : Type 0} → (ℕ → ℕ) → (ℕ → TypeEncoding K) → Type 0
TypesAgree phase A = Agrees phase (λ at. (A at).encoding.encodes)

abbrev pub AfterAgree : {K X : Type 0} → (ℕ → ℕ) → (ℕ → AfterHeader K X) → Type 0
AfterAgree phase B = (x : _) → Agrees phase (λ at. ((B at).after x).encodes)

module _ {phase : ℕ → ℕ} (shifts : Shifts phase) where
  -- ---- encodings

  pub anywhere_agrees : {K X : Type 0} (A : Encoding K X) → Agree phase (anywhere A)
  anywhere_agrees A = record { same = λ p q e x list w. w }

  pub in_turn_agrees : {K X Y Z : Type 0} (A : ℕ → Encoding K X) (f : X → Y → Z) (B : X → ℕ → Encoding K Y) → Agree phase A
      → ((x : X) → Agree phase (B x)) → Agree phase (in_turn A f B)
  in_turn_agrees A f B a b = record {
    same = λ p q e z list w. record {
      value = w.value;
      after = w.after;
      front = w.front;
      rest = w.rest;
      first = a.same p q e w.value w.front w.first;
      second = (b w.value).same (p + length w.front) (q + length w.front) (shifts.on p q (length w.front) e) w.after w.rest w.second;
      is = w.is;
      parts = w.parts;
    };
  }

  pub in_case_agrees : {K X : Type 0} (C : Type 0) (A : ℕ → Encoding K X) (D : Type 0) (B : ℕ → Encoding K X) → Agree phase A
      → Agree phase B → Agree phase (in_case C A D B)
  in_case_agrees C A D B a b = record { same = λ p q e x list w. moved p q e x list w }
    where
      moved : (p q : ℕ) → phase p ≡ phase q → (x : _) (list : List Bool) → (in_case C A D B p).encodes x list
          → (in_case C A D B q).encodes x list
      moved p q e x list (inl w) = inl (w.0, a.same p q e x list w.1)
      moved p q e x list (inr w) = inr (w.0, b.same p q e x list w.1)

  pub permitted_agrees : {K X : Type 0} (Yes No : X → Type 0) (kind : K) (node : ℕ) (A : ℕ → Encoding K X) → Agree phase A
      → Agree phase (permitted Yes No kind node A)
  permitted_agrees Yes No kind node A a =
      in_turn_agrees A (λ x y. y) (λ x. anywhere (cases (Yes x) (constant x) (No x) (invalid kind node))) a
      (λ x. anywhere_agrees (cases (Yes x) (constant x) (No x) (invalid kind node)))

  pub with_bits_agree : {K X : Type 0} (A : ℕ → Encoding K X) → Agree phase A → Agree phase (λ at. with_bits (A at))
  with_bits_agree A a = record { same = λ p q e v list w. (a.same p q e v.0 list w.0, w.1) }

  -- ---- types

  pub nothing_agrees : (K : Type 0) → TypesAgree phase (nothing {K = K})
  nothing_agrees K = record { same = λ p q e x list w. w }

  pub both_agree : {K : Type 0} (A B : ℕ → TypeEncoding K) → TypesAgree phase A → TypesAgree phase B → TypesAgree phase (both A B)
  both_agree A B a b = in_turn_agrees (λ n. (A n).encoding) (λ ts us. ts ++ us) (λ ts n. (B n).encoding) a (λ ts. b)

  pub several_agree : {K : Type 0} (A : ℕ → TypeEncoding K) → TypesAgree phase A → (n : ℕ) → TypesAgree phase (several A n)
  several_agree {K = K} A a zero = nothing_agrees K
  several_agree {K = K} A a (suc n) = both_agree A (several A n) a (several_agree A a n)

  pub part_agrees : {K X : Type 0} (A : ℕ → Encoding K X) (is : X → Piece) (B : X → ℕ → TypeEncoding K) (node : ℕ) → Agree phase A
      → ((x : X) → TypesAgree phase (B x)) → TypesAgree phase (part A is B node)
  part_agrees A is B node a b = in_turn_agrees A (λ x ts. is x ∷ ts) (λ x n. (B x n).encoding) a b

  pub leaf_agrees : {K X : Type 0} (A : ℕ → Encoding K X) (is : X → Piece) (node : ℕ) → Agree phase A → TypesAgree phase (leaf A is node)
  leaf_agrees {K = K} A is node a = part_agrees A is (λ x. nothing) node a (λ x. nothing_agrees K)

  pub put_agrees : {K : Type 0} (p : Piece) (A : ℕ → TypeEncoding K) (node : ℕ) → TypesAgree phase A → TypesAgree phase (put p A node)
  put_agrees {K = K} p A node a =
      part_agrees (λ at. constant (tt {0})) (λ u. p) (λ u. A) node (anywhere_agrees {K = K} (constant (tt {0}))) (λ u. a)

  pub header_agrees : {K X : Type 0} (H : Encoding K X) (width : ℕ) (B : ℕ → AfterHeader K X) (node : ℕ) → AfterAgree phase B
      → TypesAgree phase (header H width B node)
  header_agrees H width B node b = in_turn_agrees (λ n. H) (λ x ts. ts) (λ x n. (B n).after x) (anywhere_agrees H) b

  -- C of a position tells the same at each other of its phase
  pub except_type_agrees : {K : Type 0} (C : ℕ → List Bool → Type 0) (fault : K) (misfit : _) (node : ℕ) (A : ℕ → TypeEncoding K)
      → ((p q : ℕ) → phase p ≡ phase q → (list : List Bool) → C p list → C q list) → TypesAgree phase A
      → TypesAgree phase (λ at. except_type (C at) fault misfit node (A at))
  except_type_agrees C fault misfit node A c a = record {
    same = λ p q e x list w. (a.same p q e x list w.0, λ h. w.1 (c q p (sym e) list h));
  }

  pub both_by_bits_agree : {K : Type 0} (A : ℕ → TypeEncoding K) (B : List Bool → ℕ → TypeEncoding K) → TypesAgree phase A
      → ((list : List Bool) → TypesAgree phase (B list)) → TypesAgree phase (both_by_bits A B)
  both_by_bits_agree A B a b =
      in_turn_agrees (λ n. with_bits (A n).encoding) (λ v us. v.0 ++ us) (λ v n. (B v.1 n).encoding)
      (with_bits_agree (λ n. (A n).encoding) a) (λ v. b v.1)

  pub several_by_bits_agree : {K : Type 0} (A : List Bool → ℕ → TypeEncoding K) → ((before : List Bool) → TypesAgree phase (A before))
      → (before : List Bool) (n : ℕ) → TypesAgree phase (several_by_bits A before n)
  several_by_bits_agree {K = K} A a before zero = nothing_agrees K
  several_by_bits_agree {K = K} A a before (suc n) =
      both_by_bits_agree (A before) (λ list. several_by_bits A list n) (a before) (λ list. several_by_bits_agree A a list n)

  -- ---- what follows a header

  pub end_agrees : {K : Type 0} (fault : K) (node : ℕ) → AfterAgree phase (end_of_components fault node)
  end_agrees fault node bits = record { same = λ p q e x list w. w }

  pub mandatory_agrees : {K : Type 0} (A : ℕ → TypeEncoding K) (F : ℕ → AfterHeader K (List Bool)) → TypesAgree phase A
      → AfterAgree phase F → AfterAgree phase (mandatory A F)
  mandatory_agrees A F a f bits =
      in_turn_agrees (λ n. (A n).encoding) (λ ts us. ts ++ us) (λ ts n. (F n).after bits) a (λ ts. f bits)

  pub optional_agrees : {K : Type 0} (fault : K) (node : ℕ) (A : ℕ → TypeEncoding K) (F : ℕ → AfterHeader K (List Bool))
      → TypesAgree phase A → AfterAgree phase F → AfterAgree phase (optional fault node A F)
  optional_agrees {K = K} fault node A F a f [] = record { same = λ p q e x list w. w }
  optional_agrees {K = K} fault node A F a f (false ∷ bits) =
      in_turn_agrees (λ n. constant (Absent ∷ [])) (λ ts us. ts ++ us) (λ ts n. (F n).after bits) (anywhere_agrees {K = K} (constant (Absent ∷ [])))
      (λ ts. f bits)
  optional_agrees {K = K} fault node A F a f (true ∷ bits) =
      in_turn_agrees (λ n. (A n).encoding) (λ ts us. ts ++ us) (λ ts n. (F n).after bits) a (λ ts. f bits)

  pub only_where_agrees : {K X : Type 0} (test : X → Bool) (fault : K) (misfit : _) (node : ℕ) (B : ℕ → AfterHeader K X)
      → AfterAgree phase B → AfterAgree phase (only_where test fault misfit node B)
  only_where_agrees test fault misfit node B b x =
      in_case_agrees (test x ≡ true) (λ at. (B at).after x) (test x ≡ false) (anywhere (invalid fault node)) (b x)
      (anywhere_agrees (invalid fault node))

  pub either_by_bit_agrees : {K : Type 0} (P : Piece → Type 0) (node : ℕ) (A B : ℕ → TypeEncoding K) → TypesAgree phase A
      → TypesAgree phase B → AfterAgree phase (either_by_bit P node A B)
  either_by_bit_agrees P node A B a b false = a
  either_by_bit_agrees P node A B a b true = b

  -- a header that depends on its phase, and contents that do not
  pub enclosed_agrees : {K : Type 0} (H : ℕ → Encoding K (⊤ × List Bool)) (F : Contents K Parts) (W : Parts → _ → Type 0) (node : ℕ)
      → Agree phase H → TypesAgree phase (enclosed H F W node)
  enclosed_agrees H F W node h = record {
    same = λ p q e x list w. (w.0, h.same p q e w.0 list w.1, w.2);
  }
