-- Laws of types after a header that is in no part: of some bits, an extension bit, the length of an open type.
use Rattle.std.proofs.Common.{◌≡◌, ℕ, ◌+◌, ◌≤◌, inl, inr, List, [], ◌∷◌, ◌++◌, Bool, true, false, length, refl, sym, ◌∙◌, ap, subst}
use Rattle.std.specs.Prelude.{⊤}
use Rattle.asn1_schema.specs.declared.misfit.MisfitKind.{MisfitKind}
use Rattle.asn1_schema.specs.declared.misfit.MisfitKind.TheVariants.{NoEncoding, NoPart}
use Rattle.asn1_schema.specs.Pieces.{Piece, Parts}
use Rattle.asn1_schema.specs.Encodings.{Contents, EncodesOne, Encoding, invalid}
use Rattle.asn1_schema.specs.TypeEncodings.{Misfit, TypeEncoding, AfterHeader, AfterParts, header, by_bit, either_by_bit, NotEnclosed, enclosed, EncodesUniquely, NamesEachMisfit, only_where}
use Rattle.asn1_schema.specs.Laws.EncodingLaws.{IsSound, cases_sound, invalid_sound}
use Rattle.asn1_schema.specs.Laws.ContentsLaws.{AreSound}
use Rattle.asn1_schema.specs.Laws.PositionLaws.{in_turn_sound, within_sound}
use Rattle.asn1_schema.specs.Laws.WritingLaws.{AfterPartsBy, IsGood, IsGoodAfter, same_head, not_empty, made, moved_parts}

abbrev pub IsGoodAfterEverywhere : {K X : Type 0} → (ℕ → AfterHeader K X) → Type 0
IsGoodAfterEverywhere B = (at : ℕ) → IsGoodAfter (B at)

-- ---- a header of a number of bits

module _ {K X : Type 0} (H : Encoding K X) (width : ℕ) (B : ℕ → AfterHeader K X) (node : ℕ) (h : IsSound H)
    (one : EncodesOne H.encodes) (size : (x : X) (l : List Bool) → H.encodes x l → length l ≡ width)
    (b : IsGoodAfterEverywhere B) (at : ℕ) where
  abbrev Headed : Parts → List Bool → Type 0
  Headed xs l = (header H width B node at).encoding.encodes xs l

  abbrev Told : X → Parts → List Bool → Type 0
  Told x xs l = ((B (at + width)).after x).encodes xs l

  abbrev HeaderMisfit : Parts → Misfit → Type 0
  HeaderMisfit tape e = (header H width B node at).misfit tape e

  told : (xs : Parts) (l : List Bool) → (r : Headed xs l) → Told r.value r.after r.rest
  told xs l r = subst (λ (n : ℕ). ((B (at + n)).after r.value).encodes r.after r.rest) (size r.value r.front r.first) r.second

  header_one : (tape xs ys rest other : Parts) (k l : List Bool) → Headed xs k → Headed ys l → tape ≡ xs ++ rest → tape ≡ ys ++ other
      → (xs ≡ ys) × (rest ≡ other) × (k ≡ l)
  header_one tape xs ys rest other k l p q s t =
      let e = (b (at + width)).encodes.one p.value q.value tape p.after q.after rest other p.rest q.rest (told xs k p) (told ys l q)
      (s ∙ ap (λ (zs : Parts). zs ++ rest) p.is) (t ∙ ap (λ (zs : Parts). zs ++ other) q.is) in
      let f : p.front ≡ q.front = one.one q.value p.front q.front (subst (λ (x : X). H.encodes x p.front) e.0 p.first) q.first in (
        p.is ∙ e.1 ∙ sym q.is,
        e.2,
        p.parts ∙ ap (λ (m : List Bool). m ++ p.rest) f ∙ ap (λ (m : List Bool). q.front ++ m) e.3 ∙ sym q.parts,
      )

  header_excludes : (tape : Parts) (e : Misfit) → HeaderMisfit tape e → (xs rest : Parts) (l : List Bool) → Headed xs l
      → tape ≡ xs ++ rest → ⊥
  header_excludes tape e (inl m) xs rest l r s =
      (b (at + width)).encodes.excludes tape e m r.value r.after rest r.rest (told xs l r) (s ∙ ap (λ (zs : Parts). zs ++ rest) r.is)
  header_excludes tape e (inr m) xs rest l r s =
      let u = m.0 in
      let same = (b (at + width)).encodes.one u.value r.value tape u.parts r.after u.rest rest u.list r.rest u.encodes (told xs l r) u.are
      (s ∙ ap (λ (zs : Parts). zs ++ rest) r.is) in
      u.none (record { list = r.front; encoded = subst (λ (x : X). H.encodes x r.front) (sym same.0) r.first })

  header_one_misfit : (tape : Parts) (e g : Misfit) → HeaderMisfit tape e → HeaderMisfit tape g → e ≡ g
  header_one_misfit tape e g (inl m) (inl n) = (b (at + width)).encodes.one_misfit tape e g m n
  header_one_misfit tape e g (inl m) (inr n) =
      absurd ((b (at + width)).encodes.excludes tape e m n.0.value n.0.parts n.0.rest n.0.list n.0.encodes n.0.are)
  header_one_misfit tape e g (inr m) (inl n) =
      absurd ((b (at + width)).encodes.excludes tape g n m.0.value m.0.parts m.0.rest m.0.list m.0.encodes m.0.are)
  header_one_misfit tape e g (inr m) (inr n) = m.1 ∙ sym n.1

  header_covers : (tape : Parts) → ((e : Misfit) → HeaderMisfit tape e → ⊥) → (AfterParts Headed (λ l r. ⊤) tape → ⊥) → ⊥
  header_covers tape sound able =
      (b (at + width)).names.covers tape (λ e m. sound e (inl m))
      (λ t. sound (record { node = node; left = length tape; kind = NoEncoding })
      (inr (
        record {
          value = t.value;
          parts = t.parts;
          list = t.list;
          rest = t.rest;
          encodes = t.encodes;
          are = t.are;
          none = λ f. able
              (made Headed tape t.parts t.rest (f.list ++ t.list)
              (record {
                value = t.value;
                after = t.parts;
                front = f.list;
                rest = t.list;
                first = f.encoded;
                second = subst (λ (n : ℕ). ((B (at + n)).after t.value).encodes t.parts t.list) (sym (size t.value f.list f.encoded))
                    t.encodes;
                is = refl;
                parts = refl;
              })
              t.are);
        },
        refl,
      )))

  pub header_good : IsGood (header H width B node at)
  header_good = record {
    decodes = in_turn_sound (λ n. H) (λ x ts. ts) (λ x n. (B n).after x) at h (λ x n. (b n).decodes x);
    encodes = record { one = header_one; excludes = header_excludes; one_misfit = header_one_misfit };
    names = record { covers = header_covers };
  }

-- ---- only what meets a test

true_or_false : (b : Bool) → b ≡ true → b ≡ false → ⊥
true_or_false b p q = let e : true ≡ false = sym p ∙ q in cc

is_either : (b : Bool) → (b ≡ true → ⊥) → (b ≡ false → ⊥) → ⊥
is_either true p q = p refl
is_either false p q = q refl

module _ {K X : Type 0} (test : X → Bool) (fault : K) (kind : MisfitKind) (node : ℕ) (B : ℕ → AfterHeader K X) (at : ℕ)
    (b : IsGoodAfter (B at)) where
  abbrev All : X → Parts → List Bool → Type 0
  All x xs l = ((B at).after x).encodes xs l

  abbrev Passing : X → Parts → List Bool → Type 0
  Passing x xs l = ((only_where test fault kind node B at).after x).encodes xs l

  abbrev TestMisfit : Parts → Misfit → Type 0
  TestMisfit tape e = (only_where test fault kind node B at).misfit tape e

  passed : (x : X) (xs : Parts) (l : List Bool) → Passing x xs l → (test x ≡ true) × All x xs l
  passed x xs l (inl p) = p
  passed x xs l (inr p) = absurd p.1

  test_excludes : (tape : Parts) (e : Misfit) → TestMisfit tape e → (x : X) (xs rest : Parts) (l : List Bool) → Passing x xs l
      → tape ≡ xs ++ rest → ⊥
  test_excludes tape e (inl m) x xs rest l p s = b.encodes.excludes tape e m x xs rest l (passed x xs l p).1 s
  test_excludes tape e (inr m) x xs rest l p s =
      let u = m.0 in
      let q = passed x xs l p in
      let same = b.encodes.one u.value x tape u.parts xs u.rest rest u.list l u.encodes q.1 u.are s in
      true_or_false (test x) q.0 (sym (ap test same.0) ∙ u.fails)

  test_one_misfit : (tape : Parts) (e g : Misfit) → TestMisfit tape e → TestMisfit tape g → e ≡ g
  test_one_misfit tape e g (inl m) (inl n) = b.encodes.one_misfit tape e g m n
  test_one_misfit tape e g (inl m) (inr n) =
      absurd (b.encodes.excludes tape e m n.0.value n.0.parts n.0.rest n.0.list n.0.encodes n.0.are)
  test_one_misfit tape e g (inr m) (inl n) =
      absurd (b.encodes.excludes tape g n m.0.value m.0.parts m.0.rest m.0.list m.0.encodes m.0.are)
  test_one_misfit tape e g (inr m) (inr n) = m.1 ∙ sym n.1

  pub only_where_good : IsGoodAfter (only_where test fault kind node B at)
  only_where_good = record {
    decodes = λ x.
        cases_sound (test x ≡ true) ((B at).after x) (test x ≡ false) (invalid fault node) (true_or_false (test x)) (b.decodes x)
        (invalid_sound fault node);
    encodes = record {
      one = λ x y tape xs ys rest other k l p q s t.
          b.encodes.one x y tape xs ys rest other k l (passed x xs k p).1 (passed y ys l q).1 s t;
      excludes = test_excludes;
      one_misfit = test_one_misfit;
    };
    names = record {
      covers = λ tape sound able.
          b.names.covers tape (λ e m. sound e (inl m))
          (λ t. is_either (test t.value)
          (λ p. able
          (record {
            value = t.value;
            parts = t.parts;
            list = t.list;
            rest = t.rest;
            encodes = inl (p, t.encodes);
            are = t.are;
          }))
          (λ p. sound (record { node = node; left = length tape; kind = kind })
          (inr (
            record {
              value = t.value;
              parts = t.parts;
              list = t.list;
              rest = t.rest;
              encodes = t.encodes;
              are = t.are;
              fails = p;
            },
            refl,
          ))));
    };
  }

-- ---- a root and its extension

-- P, or its contrary, holds of the first part of each value
pub record BeginsWith {K : Type 0} (P : Piece → Type 0) (A : TypeEncoding K) : Type 0 where
  pub each : (xs : Parts) (a : List Bool) → A.encoding.encodes xs a → (p : Piece) × (others : Parts) × (xs ≡ p ∷ others) × P p

module _ {K : Type 0} (P : Piece → Type 0) (node : ℕ) (A B : ℕ → TypeEncoding K) (at : ℕ) (a : IsGood (A at)) (b : IsGood (B at))
    (root : BeginsWith (λ p. ¬ (P p)) (A at)) (extension : BeginsWith P (B at)) where
  abbrev ByBit : Bool → Parts → List Bool → Type 0
  ByBit x xs l = (by_bit (A at) (B at) x).encodes xs l

  abbrev EitherMisfit : Parts → Misfit → Type 0
  EitherMisfit tape e = (either_by_bit P node A B at).misfit tape e

  -- no parts begin with both
  differ : (tape xs ys rest other : Parts) (k l : List Bool) → (A at).encoding.encodes xs k → (B at).encoding.encodes ys l
      → tape ≡ xs ++ rest → tape ≡ ys ++ other → ⊥
  differ tape xs ys rest other k l p q s t =
      let m = root.each xs k p in
      let n = extension.each ys l q in
      let e = sym (s ∙ ap (λ (zs : Parts). zs ++ rest) m.2) ∙ t ∙ ap (λ (zs : Parts). zs ++ other) n.2 in
      m.3 (subst P (sym (same_head m.0 n.0 (m.1 ++ rest) (n.1 ++ other) e)) n.3)

  bit_one : (x y : Bool) (tape xs ys rest other : Parts) (k l : List Bool) → ByBit x xs k → ByBit y ys l → tape ≡ xs ++ rest
      → tape ≡ ys ++ other → (x ≡ y) × (xs ≡ ys) × (rest ≡ other) × (k ≡ l)
  bit_one false false tape xs ys rest other k l p q s t =
      let e = a.encodes.one tape xs ys rest other k l p q s t in
      (refl, e.0, e.1, e.2)
  bit_one false true tape xs ys rest other k l p q s t = absurd (differ tape xs ys rest other k l p q s t)
  bit_one true false tape xs ys rest other k l p q s t = absurd (differ tape ys xs other rest l k q p t s)
  bit_one true true tape xs ys rest other k l p q s t =
      let e = b.encodes.one tape xs ys rest other k l p q s t in
      (refl, e.0, e.1, e.2)

  bit_excludes : (tape : Parts) (e : Misfit) → EitherMisfit tape e → (x : Bool) (xs rest : Parts) (l : List Bool) → ByBit x xs l
      → tape ≡ xs ++ rest → ⊥
  bit_excludes [] e m false xs rest l p s =
      let n = root.each xs l p in
      not_empty n.0 (n.1 ++ rest) (s ∙ ap (λ (zs : Parts). zs ++ rest) n.2)
  bit_excludes [] e m true xs rest l p s =
      let n = extension.each xs l p in
      not_empty n.0 (n.1 ++ rest) (s ∙ ap (λ (zs : Parts). zs ++ rest) n.2)
  bit_excludes (c ∷ ps) e (inl m) false xs rest l p s = a.encodes.excludes (c ∷ ps) e m.1 xs rest l p s
  bit_excludes (c ∷ ps) e (inl m) true xs rest l p s =
      let n = extension.each xs l p in
      m.0 (subst P (sym (same_head c n.0 ps (n.1 ++ rest) (s ∙ ap (λ (zs : Parts). zs ++ rest) n.2))) n.3)
  bit_excludes (c ∷ ps) e (inr m) false xs rest l p s =
      let n = root.each xs l p in
      n.3 (subst P (same_head c n.0 ps (n.1 ++ rest) (s ∙ ap (λ (zs : Parts). zs ++ rest) n.2)) m.0)
  bit_excludes (c ∷ ps) e (inr m) true xs rest l p s = b.encodes.excludes (c ∷ ps) e m.1 xs rest l p s

  bit_one_misfit : (tape : Parts) (e g : Misfit) → EitherMisfit tape e → EitherMisfit tape g → e ≡ g
  bit_one_misfit [] e g m n = m ∙ sym n
  bit_one_misfit (c ∷ ps) e g (inl m) (inl n) = a.encodes.one_misfit (c ∷ ps) e g m.1 n.1
  bit_one_misfit (c ∷ ps) e g (inl m) (inr n) = absurd (m.0 n.0)
  bit_one_misfit (c ∷ ps) e g (inr m) (inl n) = absurd (n.0 m.0)
  bit_one_misfit (c ∷ ps) e g (inr m) (inr n) = b.encodes.one_misfit (c ∷ ps) e g m.1 n.1

  bit_sound : (x : Bool) → IsSound (by_bit (A at) (B at) x)
  bit_sound false = a.decodes
  bit_sound true = b.decodes

  bit_covers : (tape : Parts) → ((e : Misfit) → EitherMisfit tape e → ⊥) → (AfterPartsBy ByBit tape → ⊥) → ⊥
  bit_covers [] sound able = sound (record { node = node; left = 0; kind = NoPart }) refl
  bit_covers (c ∷ ps) sound able =
      let outside : P c → ⊥ = λ is.
      b.names.covers (c ∷ ps) (λ e m. sound e (inr (is, m)))
      (λ t. able (record { value = true; parts = t.parts; list = t.list; rest = t.rest; encodes = t.encodes; are = t.are })) in
      a.names.covers (c ∷ ps) (λ e m. sound e (inl (outside, m)))
      (λ t. able (record { value = false; parts = t.parts; list = t.list; rest = t.rest; encodes = t.encodes; are = t.are }))

  pub either_by_bit_good : IsGoodAfter (either_by_bit P node A B at)
  either_by_bit_good = record {
    decodes = bit_sound;
    encodes = record { one = bit_one; excludes = bit_excludes; one_misfit = bit_one_misfit };
    names = record { covers = bit_covers };
  }

-- ---- a value in bits of its own

module _ {K : Type 0} (H : ℕ → Encoding K (⊤ × List Bool)) (F : Contents K Parts) (W : Parts → Misfit → Type 0) (node at : ℕ)
    (h : IsSound (H at)) (one : EncodesOne (H at).encodes)
    (fewer : (v : ⊤ × List Bool) (list : List Bool) → (H at).encodes v list → length v.1 ≤ length list)
    (f : AreSound F) (w : EncodesUniquely F.fills W) (c : NamesEachMisfit F.fills W) where
  abbrev In : Parts → List Bool → Type 0
  In xs l = (enclosed H F W node at).encoding.encodes xs l

  abbrev EM : Parts → Misfit → Type 0
  EM tape e = (enclosed H F W node at).misfit tape e

  same_header : (v x : ⊤ × List Bool) (a b : List Bool) → v.1 ≡ x.1 → (H at).encodes v a → (H at).encodes x b → a ≡ b
  same_header v x a b e p q =
      one.one x a b (subst (λ (k : List Bool). (H at).encodes (tt, k) a) e p) q

  enclosed_one : (tape xs ys rest other : Parts) (a b : List Bool) → In xs a → In ys b → tape ≡ xs ++ rest → tape ≡ ys ++ other
      → (xs ≡ ys) × (rest ≡ other) × (a ≡ b)
  enclosed_one tape xs ys rest other a b p q s t =
      let e = w.one tape xs ys rest other p.0.1 q.0.1 p.2 q.2 s t in
      (e.0, e.1, same_header p.0 q.0 a b e.2 p.1 q.1)

  enclosed_excludes : (tape : Parts) (e : Misfit) → EM tape e → (xs rest : Parts) (a : List Bool) → In xs a → tape ≡ xs ++ rest → ⊥
  enclosed_excludes tape e (inl m) xs rest a p s = w.excludes tape e m xs rest p.0.1 p.2 s
  enclosed_excludes tape e (inr m) xs rest a p s =
      moved_parts F.fills W w (λ list r. NotEnclosed (H at) list) tape xs rest p.0.1 m.0 p.2 s a p.1

  enclosed_one_misfit : (tape : Parts) (e g : Misfit) → EM tape e → EM tape g → e ≡ g
  enclosed_one_misfit tape e g (inl m) (inl n) = w.one_misfit tape e g m n
  enclosed_one_misfit tape e g (inl m) (inr n) = absurd (w.excludes tape e m n.0.parts n.0.rest n.0.list n.0.encodes n.0.are)
  enclosed_one_misfit tape e g (inr m) (inl n) = absurd (w.excludes tape g n m.0.parts m.0.rest m.0.list m.0.encodes m.0.are)
  enclosed_one_misfit tape e g (inr m) (inr n) = m.1 ∙ sym n.1

  pub enclosed_good : IsGood (enclosed H F W node at)
  enclosed_good = record {
    decodes = within_sound (H at) (λ u. F) h (λ u. f) fewer;
    encodes = record { one = enclosed_one; excludes = enclosed_excludes; one_misfit = enclosed_one_misfit };
    names = record {
      covers = λ tape sound able.
          c.covers tape (λ e m. sound e (inl m))
          (λ t. sound (record { node = node; left = length tape; kind = NoEncoding })
          (inr (
            record {
              parts = t.parts;
              list = t.list;
              rest = t.rest;
              encodes = t.encodes;
              are = t.are;
              holds = λ l e. able (made In tape t.parts t.rest l ((tt, t.list), e, t.encodes) t.are);
            },
            refl,
          )));
    };
  }
