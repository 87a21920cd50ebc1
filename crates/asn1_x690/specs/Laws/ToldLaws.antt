-- Laws of values one after another in contents: each combinator keeps `IsGoodTold`.
use Rattle.std.proofs.Common.{◌≡◌, ℕ, ◌+◌, ◌<◌, inl, inr, List, [], ◌∷◌, ◌++◌, Bool, length, refl, sym, ◌∙◌, ap, subst, arith}
use Rattle.std.specs.Prelude.{◌⊎◌, ⊤}
use Rattle.std.proofs.lemmas.List.{length-append}
use Rattle.asn1_schema.specs.declared.misfit.MisfitKind.{MisfitKind}
use Rattle.asn1_schema.specs.declared.misfit.MisfitKind.TheVariants.{NoEncoding}
use Rattle.asn1_schema.specs.Pieces.{Absent, Parts}
use Rattle.asn1_schema.specs.Encodings.{constant, invalid_contents, mapped}
use Rattle.asn1_schema.specs.TypeEncodings.{Misfit, IsAtPart, TypeEncoding, AfterParts, IsAbsent, EncodesUniquely, NamesEachMisfit, PairMisfit}
use Rattle.asn1_schema.specs.Laws.EncodingLaws.{constant_sound}
use Rattle.asn1_schema.specs.Laws.ContentsLaws.{invalid_contents_are_sound, only_are_sound, then_contents_are_sound, if_next_are_sound, mapped_are_sound}
use Rattle.asn1_schema.specs.Laws.WritingLaws.{IsGood, IsPresent, ArePresent, same_head, same_tail, made, moved_parts, Pair, pair_encodes, pair_names, by_none, names_none, from_none, names_from_none}
use Rattle.asn1_x690.specs.TypeContents.{ToldContents, FillsWith, invalid_told, nothing_more, present, required, perhaps}
use Rattle.asn1_x690.specs.Laws.TypeContentsLaws.{IsGoodTold, narrow, widen}

-- values that are not empty
pub record TakeBits {K : Type 0} (A : TypeEncoding K) : Type 0 where
  pub some : (xs : Parts) (l : List Bool) → A.encoding.encodes xs l → 0 < length l

-- contents that are not empty
pub record FillBits {K X : Type 0} (F : ToldContents K X) : Type 0 where
  pub some : (v : X × Parts) (l : List Bool) → F.contents.fills v l → 0 < length l

-- the first part does not say that a component is absent
pub record ArePresentTold {K X : Type 0} (F : ToldContents K X) : Type 0 where
  pub each : (x : X) (xs : Parts) (l : List Bool) → FillsWith F x xs l → IsPresent xs

pub first_of : {X Y : Type 0} (v w : X × Y) → v ≡ w → v.0 ≡ w.0
first_of {X} {Y} v w e = ap (λ (u : X × Y). u.0) e

pub second_of : {X Y : Type 0} (v w : X × Y) → v ≡ w → v.1 ≡ w.1
second_of {X} {Y} v w e = ap (λ (u : X × Y). u.1) e

pub invalid_told_good : {K X : Type 0} (fault : K) (kind : MisfitKind) (node : ℕ) → IsGoodTold (invalid_told {X = X} fault kind node)
invalid_told_good fault kind node = record {
  fills = invalid_contents_are_sound fault node;
  encodes = λ x. record {
    one = λ tape xs ys rest other a b p q s t. absurd p;
    excludes = λ tape e m xs rest a p s. p;
    one_misfit = λ tape e g m n. m ∙ sym n;
  };
  names = λ x. record { covers = λ tape sound able. sound (record { node = node; left = length tape; kind = kind }) refl };
}

-- no parts and no bits encode uniquely
pub none_encodes : (P : Parts → List Bool → Type 0) → ((xs : Parts) (l : List Bool) → P xs l → (xs ≡ []) × (l ≡ []))
    → EncodesUniquely P (λ tape e. ⊥)
none_encodes P none = record {
  one = λ tape xs ys rest other a b p q s t.
      let x = none xs a p in
      let y = none ys b q in (
        x.0 ∙ sym y.0,
        sym (s ∙ ap (λ (zs : Parts). zs ++ rest) x.0) ∙ t ∙ ap (λ (zs : Parts). zs ++ other) y.0,
        x.1 ∙ sym y.1,
      );
  excludes = λ tape e m xs rest a p s. m;
  one_misfit = λ tape e g m n. absurd m;
}

pub nothing_more_good : {K : Type 0} (extra : K) (node : ℕ) → IsGoodTold (nothing_more extra node)
nothing_more_good extra node = record {
  fills = only_are_sound extra node (constant (tt {0}, [])) (constant_sound (tt {0}, []));
  encodes = λ x. none_encodes (FillsWith (nothing_more extra node) x) (λ xs l p. (second_of (x, xs) (tt, []) p.0, p.1));
  names = λ x. record { covers = λ tape sound able. able (made (FillsWith (nothing_more extra node) x) tape [] tape [] (refl, refl) refl) };
}

-- ---- a value, then contents

module _ {K X : Type 0} (A : TypeEncoding K) (F : ToldContents K X) (a : IsGood A) (f : IsGoodTold F) where
  module _ (x : X) where
    abbrev Q : ℕ → ⊤ → Parts → List Bool → Type 0
    Q n u xs l = FillsWith F x xs l

    abbrev U : ℕ → Parts → Misfit → Type 0
    U n tape e = F.misfit x tape e

    abbrev Both : Parts → List Bool → Type 0
    Both xs l = Pair A Q U 0 a.encodes (λ n. by_none (FillsWith F x) (F.misfit x) (f.encodes x)) tt xs l

    into : (xs : Parts) (l : List Bool) → FillsWith (present A F) x xs l → Both xs l
    into xs l p = record {
      value = p.value;
      after = p.after.1;
      front = p.front;
      rest = p.rest;
      first = p.first;
      second = subst (λ (y : X). FillsWith F y p.after.1 p.rest) (sym (first_of (x, xs) (p.after.0, p.value ++ p.after.1) p.is)) p.second;
      is = second_of (x, xs) (p.after.0, p.value ++ p.after.1) p.is;
      parts = p.parts;
    }

    back : (xs : Parts) (l : List Bool) → Both xs l → FillsWith (present A F) x xs l
    back xs l p = record {
      value = p.value;
      after = (x, p.after);
      front = p.front;
      rest = p.rest;
      first = p.first;
      second = p.second;
      is = ap (λ (ys : Parts). (x, ys)) p.is;
      parts = p.parts;
    }

    present_encodes : EncodesUniquely (FillsWith (present A F) x) ((present A F).misfit x)
    present_encodes =
        narrow (FillsWith (present A F) x) Both ((present A F).misfit x) into
        (from_none Both (PairMisfit A U 0) (pair_encodes A Q U 0 a.encodes (λ n. by_none (FillsWith F x) (F.misfit x) (f.encodes x))))

    present_names : NamesEachMisfit (FillsWith (present A F) x) ((present A F).misfit x)
    present_names =
        widen Both (FillsWith (present A F) x) ((present A F).misfit x) back
        (names_from_none Both (PairMisfit A U 0)
        (pair_names A Q U 0 a.encodes (λ n. by_none (FillsWith F x) (F.misfit x) (f.encodes x)) a.names
        (λ n. names_none (FillsWith F x) (F.misfit x) (f.names x))))

  pub present_good : IsGoodTold (present A F)
  present_good = record {
    fills = then_contents_are_sound A.encoding (λ ts v. (v.0, ts ++ v.1)) (λ ts. F.contents) a.decodes (λ ts. f.fills);
    encodes = present_encodes;
    names = present_names;
  }

  pub present_some : TakeBits A → FillBits (present A F)
  present_some some = record {
    some = λ v l p.
        let s : 0 < length p.front = some.some p.value p.front p.first in
        let w : length l ≡ length p.front + length p.rest = ap length p.parts ∙ length-append p.front p.rest in
        omega (arith, s, w);
  }

  pub present_present : ArePresent A → ArePresentTold (present A F)
  present_present there = record {
    each = λ x xs l p.
        let q = there.each p.value p.front p.first in
        record {
          first = q.first;
          others = q.others ++ p.after.1;
          are = second_of (x, xs) (p.after.0, p.value ++ p.after.1) p.is ∙ ap (λ (ys : Parts). ys ++ p.after.1) q.are;
          present = q.present;
        };
  }

-- ---- contents that are not empty

module _ {K X : Type 0} (missing : K) (node : ℕ) (F : ToldContents K X) (f : IsGoodTold F) (some : FillBits F) where
  of_some : (v : X × Parts) (l : List Bool) → (required missing node F).contents.fills v l → F.contents.fills v l
  of_some v l (inl p) = absurd p.1
  of_some v l (inr p) = p.1

  is_some : (v : X × Parts) (l : List Bool) → F.contents.fills v l → (required missing node F).contents.fills v l
  is_some v l p = inr ((λ e. let s = some.some v l p in let z : length l ≡ 0 = ap length e in omega (arith, s, z)), p)

  pub required_good : IsGoodTold (required missing node F)
  required_good = record {
    fills = if_next_are_sound (λ list. list ≡ []) (invalid_contents missing node) F.contents (invalid_contents_are_sound missing node) f.fills;
    encodes = λ x. narrow (FillsWith (required missing node F) x) (FillsWith F x) (F.misfit x) (λ xs l p. of_some (x, xs) l p) (f.encodes x);
    names = λ x. widen (FillsWith F x) (FillsWith (required missing node F) x) (F.misfit x) (λ xs l p. is_some (x, xs) l p) (f.names x);
  }

-- ---- contents, or an absent component and others

module _ {K X : Type 0} (C : List Bool → Type 0) (node : ℕ) (G F : ToldContents K X) (g : IsGoodTold G) (f : IsGoodTold F)
    (there : ArePresentTold G) where
  module _ (x : X) where
    abbrev T : Parts → List Bool → Type 0
    T xs l = FillsWith G x xs l

    abbrev N : Parts → List Bool → Type 0
    N xs l = (others : Parts) × FillsWith F x others l × (xs ≡ Absent ∷ others)

    abbrev M : Parts → List Bool → Type 0
    M xs l = (C l × T xs l) ⊎ (¬ (C l) × N xs l)

    abbrev PW : Parts → Misfit → Type 0
    PW tape e = (perhaps C node G F).misfit x tape e

    begun : (tape xs rest : Parts) (l : List Bool) → T xs l → tape ≡ xs ++ rest → IsAbsent tape → ⊥
    begun tape xs rest l p s is =
        let q = there.each x xs l p in
        q.present
        (same_head q.first Absent (q.others ++ rest) is.0
        (sym (s ∙ ap (λ (zs : Parts). zs ++ rest) q.are) ∙ is.1))

    gone : (tape xs rest : Parts) (l : List Bool) → (p : N xs l) → tape ≡ xs ++ rest → tape ≡ Absent ∷ (p.0 ++ rest)
    gone tape xs rest l p s = s ∙ ap (λ (zs : Parts). zs ++ rest) p.2

    perhaps_one : (tape xs ys rest other : Parts) (k l : List Bool) → M xs k → M ys l → tape ≡ xs ++ rest → tape ≡ ys ++ other
        → (xs ≡ ys) × (rest ≡ other) × (k ≡ l)
    perhaps_one tape xs ys rest other k l (inl p) (inl q) s t = (g.encodes x).one tape xs ys rest other k l p.1 q.1 s t
    perhaps_one tape xs ys rest other k l (inl p) (inr q) s t =
        absurd (begun tape xs rest k p.1 s (q.1.0 ++ other, gone tape ys other l q.1 t))
    perhaps_one tape xs ys rest other k l (inr p) (inl q) s t =
        absurd (begun tape ys other l q.1 t (p.1.0 ++ rest, gone tape xs rest k p.1 s))
    perhaps_one tape xs ys rest other k l (inr p) (inr q) s t =
        let u = p.1 in
        let v = q.1 in
        let e = same_tail Absent Absent (u.0 ++ rest) (v.0 ++ other) (sym (gone tape xs rest k u s) ∙ gone tape ys other l v t) in
        let h = (f.encodes x).one (u.0 ++ rest) u.0 v.0 rest other k l u.1 v.1 refl e in
        (u.2 ∙ ap (λ (zs : Parts). Absent ∷ zs) h.0 ∙ sym v.2, h.1, h.2)

    perhaps_excludes : (tape : Parts) (e : Misfit) → PW tape e → (xs rest : Parts) (l : List Bool) → M xs l → tape ≡ xs ++ rest → ⊥
    perhaps_excludes tape e (inl (others, h, m)) xs rest l (inl p) s = begun tape xs rest l p.1 s (others, h)
    perhaps_excludes tape e (inl (others, h, inl m)) xs rest l (inr p) s =
        let u = p.1 in
        (f.encodes x).excludes others e m u.0 rest l u.1 (same_tail Absent Absent others (u.0 ++ rest) (sym h ∙ gone tape xs rest l u s))
    perhaps_excludes tape e (inl (others, h, inr m)) xs rest l (inr p) s =
        let u = p.1 in
        p.0
        (moved_parts (FillsWith F x) (F.misfit x) (f.encodes x) (λ k r. C k) others u.0 rest l m.0 u.1
        (same_tail Absent Absent others (u.0 ++ rest) (sym h ∙ gone tape xs rest l u s)))
    perhaps_excludes tape e (inr (not, inl m)) xs rest l (inl p) s = (g.encodes x).excludes tape e m xs rest l p.1 s
    perhaps_excludes tape e (inr (not, inr m)) xs rest l (inl p) s =
        moved_parts (FillsWith G x) (G.misfit x) (g.encodes x) (λ k r. ¬ (C k)) tape xs rest l m.0 p.1 s p.0
    perhaps_excludes tape e (inr (not, m)) xs rest l (inr p) s = not (p.1.0 ++ rest, gone tape xs rest l p.1 s)

    absent_one : (others : Parts) (e h : Misfit) (tape : Parts)
        → F.misfit x others e ⊎ (AfterParts (FillsWith F x) (λ k r. C k) others × IsAtPart NoEncoding node tape e)
        → F.misfit x others h ⊎ (AfterParts (FillsWith F x) (λ k r. C k) others × IsAtPart NoEncoding node tape h) → e ≡ h
    absent_one others e h tape (inl m) (inl n) = (f.encodes x).one_misfit others e h m n
    absent_one others e h tape (inl m) (inr n) =
        absurd ((f.encodes x).excludes others e m n.0.parts n.0.rest n.0.list n.0.encodes n.0.are)
    absent_one others e h tape (inr m) (inl n) =
        absurd ((f.encodes x).excludes others h n m.0.parts m.0.rest m.0.list m.0.encodes m.0.are)
    absent_one others e h tape (inr m) (inr n) = m.1 ∙ sym n.1

    perhaps_one_misfit : (tape : Parts) (e h : Misfit) → PW tape e → PW tape h → e ≡ h
    perhaps_one_misfit tape e h (inl (us, i, m)) (inl (vs, j, n)) =
        let same : us ≡ vs = same_tail Absent Absent us vs (sym i ∙ j) in
        absent_one vs e h tape
        (subst (λ (t : Parts).
        F.misfit x t e ⊎ (AfterParts (FillsWith F x) (λ k r. C k) t × IsAtPart NoEncoding node tape e)) same m)
        n
    perhaps_one_misfit tape e h (inl (us, i, m)) (inr (not, n)) = absurd (not (us, i))
    perhaps_one_misfit tape e h (inr (not, m)) (inl (vs, j, n)) = absurd (not (vs, j))
    perhaps_one_misfit tape e h (inr (not, inl m)) (inr (nor, inl n)) = (g.encodes x).one_misfit tape e h m n
    perhaps_one_misfit tape e h (inr (not, inl m)) (inr (nor, inr n)) =
        absurd ((g.encodes x).excludes tape e m n.0.parts n.0.rest n.0.list n.0.encodes n.0.are)
    perhaps_one_misfit tape e h (inr (not, inr m)) (inr (nor, inl n)) =
        absurd ((g.encodes x).excludes tape h n m.0.parts m.0.rest m.0.list m.0.encodes m.0.are)
    perhaps_one_misfit tape e h (inr (not, inr m)) (inr (nor, inr n)) = m.1 ∙ sym n.1

    abbrev D : Parts → List Bool → Type 0
    D xs l = FillsWith (perhaps C node G F) x xs l

    as_either : (xs : Parts) (l : List Bool) → D xs l → M xs l
    as_either xs l (inl p) = inl p
    as_either xs l (inr p) =
        let u = p.1 in
        let e = u.2 in
        inr (
          p.0,
          (
            u.0.1,
            subst (λ (y : X). FillsWith F y u.0.1 l) (sym (first_of (x, xs) (u.0.0, Absent ∷ u.0.1) e)) u.1,
            second_of (x, xs) (u.0.0, Absent ∷ u.0.1) e,
          ),
        )

    perhaps_covers : (tape : Parts) → ((e : Misfit) → PW tape e → ⊥) → (AfterParts D (λ l r. ⊤) tape → ⊥) → ⊥
    perhaps_covers tape sound able =
        let here : Misfit = record { node = node; left = length tape; kind = NoEncoding } in
        let not : IsAbsent tape → ⊥ = λ b.
        (f.names x).covers b.0 (λ e m. sound e (inl (b.0, b.1, inl m)))
        (λ t.
        let n : C t.list → ⊥ = λ c.
        sound here
        (inl (
          b.0,
          b.1,
          inr (record { parts = t.parts; list = t.list; rest = t.rest; encodes = t.encodes; are = t.are; holds = c }, refl),
        )) in
        able
        (made D tape (Absent ∷ t.parts) t.rest t.list (inr (n, ((x, t.parts), t.encodes, refl)))
        (b.1 ∙ ap (λ (ys : Parts). Absent ∷ ys) t.are))) in
        (g.names x).covers tape (λ e m. sound e (inr (not, inl m)))
        (λ t.
        sound here
        (inr (
          not,
          inr (
            record {
              parts = t.parts;
              list = t.list;
              rest = t.rest;
              encodes = t.encodes;
              are = t.are;
              holds = λ c. able (made D tape t.parts t.rest t.list (inl (c, t.encodes)) t.are);
            },
            refl,
          ),
        )))

  pub perhaps_good : IsGoodTold (perhaps C node G F)
  perhaps_good = record {
    fills = if_next_are_sound C G.contents (mapped (λ v. (v.0, Absent ∷ v.1)) F.contents) g.fills
        (mapped_are_sound (λ v. (v.0, Absent ∷ v.1)) F.contents f.fills);
    encodes = λ x. narrow (D x) (M x) (PW x) (as_either x)
        (record { one = perhaps_one x; excludes = perhaps_excludes x; one_misfit = perhaps_one_misfit x });
    names = λ x. record { covers = perhaps_covers x };
  }
