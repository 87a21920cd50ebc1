-- Laws of limits: two encodings of which the first rejects more. What it decodes the second decodes too, and its first fault is that of
-- the second, unless the fault is of the kind that says that a limit was exceeded.
use Rattle.std.proofs.Common.{◌≡◌, ℕ, zero, suc, ◌+◌, inl, inr, Bool, true, false, List, [], ◌∷◌, ◌++◌, length, subst, ap}
use Rattle.std.specs.Prelude.{⊤}
use Rattle.asn1_schema.specs.Pieces.{Piece, Absent, Parts}
use Rattle.asn1_schema.specs.Encodings.{Fault, Encoding, Contents, constant, invalid, cases, anywhere, with_bits, within, then_contents, in_turn, permitted}
use Rattle.asn1_schema.specs.Narrow.{RejectsMore}
use Rattle.asn1_schema.specs.TypeEncodings.{TypeEncoding, AfterHeader, nothing, both, several, several_by_bits, part, leaf, put, header, except_type, end_of_components, mandatory, optional, only_where, either_by_bit, enclosed}

module _ {K : Type 0} (Free : K → Type 0) where
  abbrev pub IsNarrow : {X : Type 0} → Encoding K X → Encoding K X → Type 0
  IsNarrow A B = RejectsMore Free A B

  abbrev pub AreNarrow : {X : Type 0} → (ℕ → Encoding K X) → (ℕ → Encoding K X) → Type 0
  AreNarrow A B = (at : ℕ) → IsNarrow (A at) (B at)

  abbrev pub TypesAreNarrow : (ℕ → TypeEncoding K) → (ℕ → TypeEncoding K) → Type 0
  TypesAreNarrow A B = (at : ℕ) → IsNarrow (A at).encoding (B at).encoding

  abbrev pub AfterIsNarrow : {X : Type 0} → (ℕ → AfterHeader K X) → (ℕ → AfterHeader K X) → Type 0
  AfterIsNarrow A B = (at : ℕ) (x : _) → IsNarrow ((A at).after x) ((B at).after x)

  -- ---- encodings

  pub same_narrow : {X : Type 0} (A : Encoding K X) → IsNarrow A A
  same_narrow A = record { encodes = λ x list w. w; fault = λ list e f w. w }

  -- a limit that is exceeded
  pub limit_narrow : {X : Type 0} (kind : K) (node : ℕ) (B : Encoding K X) → (Free kind → ⊥) → IsNarrow (invalid kind node) B
  limit_narrow kind node B not = record {
    encodes = λ x list w. absurd w;
    fault = λ list e f w. absurd (not (subst Free (ap (λ (i : Fault K). i.kind) w) f));
  }

  pub cases_narrow : {X : Type 0} (C : Type 0) (A : Encoding K X) (D : Type 0) (B P Q : Encoding K X) → IsNarrow A P → IsNarrow B Q
      → IsNarrow (cases C A D B) (cases C P D Q)
  cases_narrow C A D B P Q a b = record { encodes = enc; fault = fau }
    where
      enc : (x : _) (list : List Bool) → (cases C A D B).encodes x list → (cases C P D Q).encodes x list
      enc x list (inl w) = inl (w.0, a.encodes x list w.1)
      enc x list (inr w) = inr (w.0, b.encodes x list w.1)

      fau : (list : List Bool) (e : Fault K) → Free e.kind → (cases C A D B).fault list e → (cases C P D Q).fault list e
      fau list e f (inl w) = inl (w.0, a.fault list e f w.1)
      fau list e f (inr w) = inr (w.0, b.fault list e f w.1)

  -- one encoding and then another, at a position
  pub in_turn_narrow : {X Y Z : Type 0} (A P : ℕ → Encoding K X) (f : X → Y → Z) (B Q : X → ℕ → Encoding K Y) (at : ℕ)
      → IsNarrow (A at) (P at)
      → ((x : X) (front : List Bool) → (A at).encodes x front → IsNarrow (B x (at + length front)) (Q x (at + length front)))
      → IsNarrow (in_turn A f B at) (in_turn P f Q at)
  in_turn_narrow A P f B Q at a b = record {
    encodes = λ z list w. record {
      value = w.value;
      after = w.after;
      front = w.front;
      rest = w.rest;
      first = a.encodes w.value w.front w.first;
      second = (b w.value w.front w.first).encodes w.after w.rest w.second;
      is = w.is;
      parts = w.parts;
    };
    fault = fau;
  }
    where
      fau : (list : List Bool) (e : Fault K) → Free e.kind → (in_turn A f B at).fault list e → (in_turn P f Q at).fault list e
      fau list e free (inl w) = inl (a.fault list e free w)
      fau list e free (inr w) =
          let first : (A at).encodes w.value.0 w.value.1 =
          subst (λ (l : List Bool). (A at).encodes w.value.0 l) w.starts.encoded.1 w.starts.encoded.0 in
          inr (record {
            value = w.value;
            rest = w.rest;
            starts = record {
              front = w.starts.front;
              encoded = (a.encodes w.value.0 w.starts.front w.starts.encoded.0, w.starts.encoded.1);
              parts = w.starts.parts;
            };
            holds = (b w.value.0 w.value.1 first).fault w.rest e free w.holds;
          })

  pub permitted_narrow : {X : Type 0} (Yes No : X → Type 0) (kind : K) (node : ℕ) (A P : ℕ → Encoding K X) → AreNarrow A P
      → AreNarrow (permitted Yes No kind node A) (permitted Yes No kind node P)
  permitted_narrow {X} Yes No kind node A P a at =
      in_turn_narrow A P (λ x y. y) T T at (a at) (λ x front w. same_narrow (T x (at + length front)))
    where
      T : X → ℕ → Encoding K X
      T x = anywhere (cases (Yes x) (constant x) (No x) (invalid kind node))

  pub with_bits_narrow : {X : Type 0} (A P : Encoding K X) → IsNarrow A P → IsNarrow (with_bits A) (with_bits P)
  with_bits_narrow A P a = record { encodes = λ v list w. (a.encodes v.0 list w.0, w.1); fault = a.fault }

  -- ---- types

  pub both_narrow : (A P B Q : ℕ → TypeEncoding K) → TypesAreNarrow A P → TypesAreNarrow B Q → TypesAreNarrow (both A B) (both P Q)
  both_narrow A P B Q a b at =
      in_turn_narrow (λ n. (A n).encoding) (λ n. (P n).encoding) (λ ts us. ts ++ us) (λ ts n. (B n).encoding) (λ ts n. (Q n).encoding) at
      (a at) (λ x front w. b (at + length front))

  pub several_narrow : (A P : ℕ → TypeEncoding K) → TypesAreNarrow A P → (n : ℕ) → TypesAreNarrow (several A n) (several P n)
  several_narrow A P a zero = λ at. same_narrow (constant [])
  several_narrow A P a (suc n) = both_narrow A P (several A n) (several P n) a (several_narrow A P a n)

  pub part_narrow : {X : Type 0} (A P : ℕ → Encoding K X) (is : X → Piece) (B Q : X → ℕ → TypeEncoding K) (node : ℕ) → AreNarrow A P
      → ((x : X) → TypesAreNarrow (B x) (Q x)) → TypesAreNarrow (part A is B node) (part P is Q node)
  part_narrow A P is B Q node a b at =
      in_turn_narrow A P (λ x ts. is x ∷ ts) (λ x n. (B x n).encoding) (λ x n. (Q x n).encoding) at (a at)
      (λ x front w. b x (at + length front))

  pub leaf_narrow : {X : Type 0} (A P : ℕ → Encoding K X) (is : X → Piece) (node : ℕ) → AreNarrow A P
      → TypesAreNarrow (leaf A is node) (leaf P is node)
  leaf_narrow A P is node a = part_narrow A P is (λ x. nothing) (λ x. nothing) node a (λ x at. same_narrow (constant []))

  pub put_narrow : (p : Piece) (A P : ℕ → TypeEncoding K) (node : ℕ) → TypesAreNarrow A P → TypesAreNarrow (put p A node) (put p P node)
  put_narrow p A P node a =
      part_narrow (λ at. constant (tt {0})) (λ at. constant (tt {0})) (λ u. p) (λ u. A) (λ u. P) node
      (λ at. same_narrow (constant (tt {0}))) (λ u. a)

  pub header_narrow : {X : Type 0} (H : Encoding K X) (width : ℕ) (B Q : ℕ → AfterHeader K X) (node : ℕ) → AfterIsNarrow B Q
      → TypesAreNarrow (header H width B node) (header H width Q node)
  header_narrow H width B Q node b at =
      in_turn_narrow (λ n. H) (λ n. H) (λ x ts. ts) (λ x n. (B n).after x) (λ x n. (Q n).after x) at (same_narrow H)
      (λ x front w. b (at + length front) x)

  -- a property that holds of the bits of a value of A in both, or whose fault is a limit
  pub except_narrow : (C D : List Bool → Type 0) (kind : K) (misfit : _) (node : ℕ) (A P : TypeEncoding K)
      → IsNarrow A.encoding P.encoding → ((x : Parts) (l : List Bool) → A.encoding.encodes x l → D l → C l)
      → (Free kind → (x : Parts) (l : List Bool) → A.encoding.encodes x l → C l → D l)
      → IsNarrow (except_type C kind misfit node A).encoding (except_type D kind misfit node P).encoding
  except_narrow C D kind misfit node A P a down up = record {
    encodes = λ x list w. (a.encodes x list w.0, λ h. w.1 (down x list w.0 h));
    fault = fau;
  }
    where
      fau : (list : List Bool) (e : Fault K) → Free e.kind → (except_type C kind misfit node A).encoding.fault list e
          → (except_type D kind misfit node P).encoding.fault list e
      fau list e free (inl w) = inl (a.fault list e free w)
      fau list e free (inr w) =
          let v = w.0 in
          let is : Free kind = subst Free (ap (λ (i : Fault K). i.kind) w.1) free in
          let first : A.encoding.encodes v.value.0 v.value.1 =
          subst (λ (l : List Bool). A.encoding.encodes v.value.0 l) v.starts.encoded.1 v.starts.encoded.0 in
          inr (
            record {
              value = v.value;
              rest = v.rest;
              starts = record {
                front = v.starts.front;
                encoded = (a.encodes v.value.0 v.starts.front v.starts.encoded.0, v.starts.encoded.1);
                parts = v.starts.parts;
              };
              holds = up is v.value.0 v.value.1 first v.holds;
            },
            w.1,
          )

  -- items that depend on the bits of the one before them, of which Is holds
  pub several_by_bits_narrow : (Is : List Bool → ℕ → Type 0) (A P : List Bool → ℕ → TypeEncoding K)
      → ((before : List Bool) (at : ℕ) → Is before at → IsNarrow (A before at).encoding (P before at).encoding)
      → ((before : List Bool) (at : ℕ) (x : Parts) (list : List Bool) → (A before at).encoding.encodes x list → Is list (at + length list))
      → (n : ℕ) (before : List Bool) (at : ℕ) → Is before at
      → IsNarrow (several_by_bits A before n at).encoding (several_by_bits P before n at).encoding
  several_by_bits_narrow Is A P a next zero before at is = same_narrow (constant [])
  several_by_bits_narrow Is A P a next (suc n) before at is =
      in_turn_narrow (λ m. with_bits (A before m).encoding) (λ m. with_bits (P before m).encoding) (λ v us. v.0 ++ us)
      (λ v m. (several_by_bits A v.1 n m).encoding) (λ v m. (several_by_bits P v.1 n m).encoding) at
      (with_bits_narrow (A before at).encoding (P before at).encoding (a before at is))
      (λ v front w. several_by_bits_narrow Is A P a next n v.1 (at + length front)
      (subst (λ (l : List Bool). Is l (at + length front)) w.1 (next before at v.0 front w.0)))

  -- ---- what follows a header

  pub end_narrow : (fault : K) (node : ℕ) → AfterIsNarrow (end_of_components fault node) (end_of_components fault node)
  end_narrow fault node at bits = same_narrow ((end_of_components fault node at).after bits)

  pub mandatory_narrow : (A P : ℕ → TypeEncoding K) (F G : ℕ → AfterHeader K (List Bool)) → TypesAreNarrow A P → AfterIsNarrow F G
      → AfterIsNarrow (mandatory A F) (mandatory P G)
  mandatory_narrow A P F G a f at bits =
      in_turn_narrow (λ n. (A n).encoding) (λ n. (P n).encoding) (λ ts us. ts ++ us) (λ ts n. (F n).after bits)
      (λ ts n. (G n).after bits) at (a at) (λ x front w. f (at + length front) bits)

  pub optional_narrow : (fault : K) (node : ℕ) (A P : ℕ → TypeEncoding K) (F G : ℕ → AfterHeader K (List Bool)) → TypesAreNarrow A P
      → AfterIsNarrow F G → AfterIsNarrow (optional fault node A F) (optional fault node P G)
  optional_narrow fault node A P F G a f at [] = same_narrow (invalid fault node)
  optional_narrow fault node A P F G a f at (false ∷ bits) =
      let N = λ (n : ℕ). constant {K = K} (Absent ∷ []) in
      in_turn_narrow N N (λ ts us. ts ++ us) (λ ts n. (F n).after bits) (λ ts n. (G n).after bits) at
      (same_narrow (constant (Absent ∷ []))) (λ x front w. f (at + length front) bits)
  optional_narrow fault node A P F G a f at (true ∷ bits) =
      in_turn_narrow (λ n. (A n).encoding) (λ n. (P n).encoding) (λ ts us. ts ++ us) (λ ts n. (F n).after bits)
      (λ ts n. (G n).after bits) at (a at) (λ x front w. f (at + length front) bits)

  pub only_where_narrow : {X : Type 0} (test : X → Bool) (fault : K) (misfit : _) (node : ℕ) (B Q : ℕ → AfterHeader K X)
      → AfterIsNarrow B Q → AfterIsNarrow (only_where test fault misfit node B) (only_where test fault misfit node Q)
  only_where_narrow test fault misfit node B Q b at x =
      cases_narrow (test x ≡ true) ((B at).after x) (test x ≡ false) (invalid fault node) ((Q at).after x) (invalid fault node) (b at x)
      (same_narrow (invalid fault node))

  pub either_by_bit_narrow : (P : Piece → Type 0) (node : ℕ) (A B C D : ℕ → TypeEncoding K) → TypesAreNarrow A C → TypesAreNarrow B D
      → AfterIsNarrow (either_by_bit P node A B) (either_by_bit P node C D)
  either_by_bit_narrow P node A B C D a b at false = a at
  either_by_bit_narrow P node A B C D a b at true = b at

  -- ---- contents that a header encloses

  pub record ContentsAreNarrow {X : Type 0} (F G : Contents K X) : Type 0 where
    pub fills : (x : X) (list : List Bool) → F.fills x list → G.fills x list
    pub fault : (list : List Bool) (e : Fault K) → Free e.kind → F.fault list e → G.fault list e

  pub then_contents_narrow : {X Y Z : Type 0} (A P : Encoding K X) (f : X → Y → Z) (F : X → Contents K Y) → IsNarrow A P
      → ContentsAreNarrow (then_contents A f F) (then_contents P f F)
  then_contents_narrow A P f F a = record {
    fills = λ z list w. record {
      value = w.value;
      after = w.after;
      front = w.front;
      rest = w.rest;
      first = a.encodes w.value w.front w.first;
      second = w.second;
      is = w.is;
      parts = w.parts;
    };
    fault = fau;
  }
    where
      fau : (list : List Bool) (e : Fault K) → Free e.kind → (then_contents A f F).fault list e → (then_contents P f F).fault list e
      fau list e free (inl w) = inl (a.fault list e free w)
      fau list e free (inr w) =
          inr (record {
            value = w.value;
            rest = w.rest;
            starts = record { front = w.starts.front; encoded = a.encodes w.value w.starts.front w.starts.encoded; parts = w.starts.parts };
            holds = w.holds;
          })

  pub enclosed_narrow : (H I : ℕ → Encoding K (⊤ × List Bool)) (F G : Contents K Parts) (W V : Parts → _ → Type 0) (node : ℕ)
      → AreNarrow H I → ContentsAreNarrow F G → TypesAreNarrow (enclosed H F W node) (enclosed I G V node)
  enclosed_narrow H I F G W V node h f at = record {
    encodes = λ x list w. (w.0, (h at).encodes w.0 list w.1, f.fills x w.0.1 w.2);
    fault = fau;
  }
    where
      fau : (list : List Bool) (e : Fault K) → Free e.kind → (within (H at) (λ u. F)).fault list e → (within (I at) (λ u. G)).fault list e
      fau list e free (inl w) = inl ((h at).fault list e free w)
      fau list e free (inr w) =
          let inner : Free w.holds.0.kind = subst Free (ap (λ (i : Fault K). i.kind) w.holds.2) free in
          inr (record {
            value = w.value;
            rest = w.rest;
            starts = record { front = w.starts.front; encoded = (h at).encodes w.value w.starts.front w.starts.encoded; parts = w.starts.parts };
            holds = (w.holds.0, f.fault w.value.1 w.holds.0 inner w.holds.1, w.holds.2);
          })
