-- Laws of values to the end of contents, and of contents that may be empty: each combinator keeps `IsGoodTold`.
use Rattle.std.proofs.Common.{◌≡◌, ℕ, zero, suc, ◌+◌, ◌<◌, ◌≤◌, inl, inr, List, [], ◌++◌, Bool, true, false, length, refl, sym, ◌∙◌, ap, subst, arith}
use Rattle.std.specs.Prelude.{⊤}
use Rattle.std.proofs.lemmas.List.{length-append}
use Rattle.asn1_schema.specs.declared.misfit.MisfitKind.TheVariants.{NoEncoding, NoAddition}
use Rattle.asn1_schema.specs.Pieces.{Parts}
use Rattle.asn1_schema.specs.Encodings.{constant, only, mapped, items}
use Rattle.asn1_schema.specs.TypeEncodings.{Misfit, TypeEncoding, AfterParts, EncodesUniquely, NamesEachMisfit, several_by_bits}
use Rattle.asn1_schema.specs.Laws.EncodingLaws.{constant_sound}
use Rattle.asn1_schema.specs.Laws.ContentsLaws.{only_are_sound, if_next_are_sound, mapped_are_sound, repeated_are_sound}
use Rattle.asn1_schema.specs.Laws.WritingLaws.{IsGood, made, moved_parts}
use Rattle.asn1_schema.specs.Laws.TypeLaws.{several_by_bits_good}
use Rattle.asn1_x690.specs.TypeContents.{TypeContents, ToldContents, FillsWith, to_end, renamed, SomeMisfit, some_or_none}
use Rattle.asn1_x690.specs.Laws.HeadedLaws.{IsGoodContents}
use Rattle.asn1_x690.specs.Laws.TypeContentsLaws.{IsGoodTold, narrow, widen}
use Rattle.asn1_x690.specs.Laws.ToldLaws.{TakeBits, first_of, second_of, none_encodes}

-- ---- values to the end

module _ {K : Type 0} (extra : K) (node : ℕ) (A : List Bool → TypeEncoding K) (a : (before : List Bool) → IsGood (A before))
    (some : (before : List Bool) → TakeBits (A before)) where
  abbrev Items : List Bool → ℕ → ℕ × Parts → List Bool → Type 0
  Items before most v l =
      (items extra node (λ k. (A k).encoding) (0, []) (λ ts w. (suc w.0, ts ++ w.1)) before most).fills v l

  abbrev Several : List Bool → ℕ → ℕ → Parts → List Bool → Type 0
  Several before n at xs l = (several_by_bits (λ k i. A k) before n at).encoding.encodes xs l

  several_of : (most at : ℕ) (before : List Bool) (v : ℕ × Parts) (l : List Bool) → Items before most v l → Several before v.0 at v.1 l
  several_of zero at before v l p = subst (λ (w : ℕ × Parts). Several before w.0 at w.1 l) (sym p.0) (refl, p.1)
  several_of (suc most) at before v l (inl p) =
      let q = p.1 in
      subst (λ (w : ℕ × Parts). Several before w.0 at w.1 l) (sym q.0) (refl, q.1)
  several_of (suc most) at before v l (inr p) =
      let r = p.1 in
      subst (λ (w : ℕ × Parts). Several before w.0 at w.1 l) (sym r.is)
      (record {
        value = r.value;
        after = r.after.1;
        front = r.front;
        rest = r.rest;
        first = r.first;
        second = several_of most (at + length r.front) r.value.1 r.after r.rest r.second;
        is = refl;
        parts = r.parts;
      })

  as_items : (n most at : ℕ) (before : List Bool) (xs : Parts) (l : List Bool) → length l ≤ most → Several before n at xs l
      → Items before most (n, xs) l
  as_items zero zero at before xs l few m = (ap (λ (ys : Parts). (0, ys)) m.0, m.1)
  as_items zero (suc most) at before xs l few m = inl (m.1, (ap (λ (ys : Parts). (0, ys)) m.0, m.1))
  as_items (suc n) zero at before xs l few m =
      let s : 0 < length m.front = (some before).some m.value.0 m.front m.first.0 in
      let w : length l ≡ length m.front + length m.rest = ap length m.parts ∙ length-append m.front m.rest in
      absurd (omega (arith, s, w, few))
  as_items (suc n) (suc most) at before xs l few m =
      let s : 0 < length m.front = (some before).some m.value.0 m.front m.first.0 in
      let w : length l ≡ length m.front + length m.rest = ap length m.parts ∙ length-append m.front m.rest in
      let there : l ≡ [] → ⊥ = λ e. let z : length l ≡ 0 = ap length e in omega (arith, s, w, z) in
      inr (
        there,
        record {
          value = m.value;
          after = (n, m.after);
          front = m.front;
          rest = m.rest;
          first = m.first;
          second = as_items n most (at + length m.front) m.value.1 m.after m.rest (omega (arith, s, w, few)) m.second;
          is = ap (λ (ys : Parts). (suc n, ys)) m.is;
          parts = m.parts;
        },
      )

  pub to_end_good : IsGoodTold (to_end extra node A)
  to_end_good = record {
    fills = repeated_are_sound extra node (λ k. (A k).encoding) (0, []) (λ ts v. (suc v.0, ts ++ v.1)) (λ k. (a k).decodes);
    encodes = λ n. narrow (FillsWith (to_end extra node A) n) (Several [] n 0) ((to_end extra node A).misfit n)
        (λ xs l p. several_of (length l) 0 [] (n, xs) l p) (several_by_bits_good (λ k i. A k) (λ k i. a k) [] n 0).encodes;
    names = λ n. widen (Several [] n 0) (FillsWith (to_end extra node A) n) ((to_end extra node A).misfit n)
        (λ xs l p. as_items n (length l) 0 [] xs l (omega arith) p) (several_by_bits_good (λ k i. A k) (λ k i. a k) [] n 0).names;
  }

-- ---- other names of what is told

module _ {K X Y : Type 0} (f : X → Y) (node : ℕ) (F : ToldContents K X) (alike : (x y : X) → f x ≡ f y → x ≡ y) (g : IsGoodTold F) where
  module _ (y : Y) where
    abbrev R : Parts → List Bool → Type 0
    R xs l = FillsWith (renamed f node F) y xs l

    abbrev RW : Parts → Misfit → Type 0
    RW tape e = (renamed f node F).misfit y tape e

    named : (xs : Parts) (l : List Bool) → R xs l → (x : X) × (y ≡ f x) × FillsWith F x xs l
    named xs l p =
        let e = p.2 in
        let v = p.0 in (
          v.0,
          first_of (y, xs) (f v.0, v.1) e,
          subst (λ (zs : Parts). FillsWith F v.0 zs l) (sym (second_of (y, xs) (f v.0, v.1) e)) p.1,
        )

    moved_to : (xs : Parts) (l : List Bool) (x : X) → y ≡ f x → R xs l → FillsWith F x xs l
    moved_to xs l x e p =
        let n = named xs l p in
        subst (λ (z : X). FillsWith F z xs l) (alike n.0 x (sym n.1 ∙ e)) n.2

    renamed_one : (tape xs ys rest other : Parts) (a b : List Bool) → R xs a → R ys b → tape ≡ xs ++ rest → tape ≡ ys ++ other
        → (xs ≡ ys) × (rest ≡ other) × (a ≡ b)
    renamed_one tape xs ys rest other a b p q s t =
        let n = named ys b q in
        (g.encodes n.0).one tape xs ys rest other a b (moved_to xs a n.0 n.1 p) n.2 s t

    renamed_excludes : (tape : Parts) (e : Misfit) → RW tape e → (xs rest : Parts) (a : List Bool) → R xs a → tape ≡ xs ++ rest → ⊥
    renamed_excludes tape e (inl (x, h, m)) xs rest a p s = (g.encodes x).excludes tape e m xs rest a (moved_to xs a x h p) s
    renamed_excludes tape e (inr m) xs rest a p s = let n = named xs a p in m.0 n.0 n.1

    renamed_one_misfit : (tape : Parts) (e h : Misfit) → RW tape e → RW tape h → e ≡ h
    renamed_one_misfit tape e h (inl (x, i, m)) (inl (z, j, n)) =
        (g.encodes z).one_misfit tape e h (subst (λ (w : X). F.misfit w tape e) (alike x z (sym i ∙ j)) m) n
    renamed_one_misfit tape e h (inl (x, i, m)) (inr n) = absurd (n.0 x i)
    renamed_one_misfit tape e h (inr m) (inl (z, j, n)) = absurd (m.0 z j)
    renamed_one_misfit tape e h (inr m) (inr n) = m.1 ∙ sym n.1

    renamed_covers : (tape : Parts) → ((e : Misfit) → RW tape e → ⊥) → (AfterParts R (λ l r. ⊤) tape → ⊥) → ⊥
    renamed_covers tape sound able =
        sound (record { node = node; left = length tape; kind = NoEncoding })
        (inr (
          (λ x h.
              (g.names x).covers tape (λ e m. sound e (inl (x, h, m)))
              (λ t. able
              (made R tape t.parts t.rest t.list ((x, t.parts), t.encodes, ap (λ (z : Y). (z, t.parts)) h) t.are))),
          refl,
        ))

  pub renamed_good : IsGoodTold (renamed f node F)
  renamed_good = record {
    fills = mapped_are_sound (λ v. (f v.0, v.1)) F.contents g.fills;
    encodes = λ y. record { one = renamed_one y; excludes = renamed_excludes y; one_misfit = renamed_one_misfit y };
    names = λ y. record { covers = renamed_covers y };
  }

-- ---- contents that may be empty

module _ {K : Type 0} (extra : K) (node : ℕ) (F : TypeContents K) (f : IsGoodContents F) where
  abbrev S : Bool → Parts → List Bool → Type 0
  S b xs l = FillsWith (some_or_none extra node F) b xs l

  none_of : (xs : Parts) (l : List Bool) → S false xs l → (xs ≡ []) × (l ≡ [])
  none_of xs l (inl p) = let q = p.1 in (second_of (false, xs) (false, []) q.0, p.0)
  none_of xs l (inr p) =
      let q = p.1 in
      let e : false ≡ true = first_of (false, xs) (true, q.0) q.2 in
      absurd cc

  some_of : (xs : Parts) (l : List Bool) → S true xs l → F.contents.fills xs l × ¬ (l ≡ [])
  some_of xs l (inl p) =
      let q = p.1 in
      let e : true ≡ false = first_of (true, xs) (false, []) q.0 in
      absurd cc
  some_of xs l (inr p) =
      let q = p.1 in
      (subst (λ (ys : Parts). F.contents.fills ys l) (sym (second_of (true, xs) (true, q.0) q.2)) q.1, p.0)

  some_excludes : (tape : Parts) (e : Misfit) → SomeMisfit node F true tape e → (xs rest : Parts) (l : List Bool) → S true xs l
      → tape ≡ xs ++ rest → ⊥
  some_excludes tape e (inl m) xs rest l p s = f.encodes.excludes tape e m xs rest l (some_of xs l p).0 s
  some_excludes tape e (inr m) xs rest l p s =
      let q = some_of xs l p in
      q.1 (moved_parts F.contents.fills F.misfit f.encodes (λ k r. k ≡ []) tape xs rest l m.0 q.0 s)

  some_one_misfit : (tape : Parts) (e h : Misfit) → SomeMisfit node F true tape e → SomeMisfit node F true tape h → e ≡ h
  some_one_misfit tape e h (inl m) (inl n) = f.encodes.one_misfit tape e h m n
  some_one_misfit tape e h (inl m) (inr n) = absurd (f.encodes.excludes tape e m n.0.parts n.0.rest n.0.list n.0.encodes n.0.are)
  some_one_misfit tape e h (inr m) (inl n) = absurd (f.encodes.excludes tape h n m.0.parts m.0.rest m.0.list m.0.encodes m.0.are)
  some_one_misfit tape e h (inr m) (inr n) = m.1 ∙ sym n.1

  some_encodes : (b : Bool) → EncodesUniquely (S b) (SomeMisfit node F b)
  some_encodes false = none_encodes (S false) none_of
  some_encodes true = record {
    one = λ tape xs ys rest other a b p q s t.
        f.encodes.one tape xs ys rest other a b (some_of xs a p).0 (some_of ys b q).0 s t;
    excludes = some_excludes;
    one_misfit = some_one_misfit;
  }

  some_names : (b : Bool) → NamesEachMisfit (S b) (SomeMisfit node F b)
  some_names false = record { covers = λ tape sound able. able (made (S false) tape [] tape [] (inl (refl, (refl, refl))) refl) }
  some_names true = record {
    covers = λ tape sound able.
        f.names.covers tape (λ e m. sound e (inl m))
        (λ t.
        let n : t.list ≡ [] → ⊥ = λ e.
        sound (record { node = node; left = length tape; kind = NoAddition })
        (inr (record { parts = t.parts; list = t.list; rest = t.rest; encodes = t.encodes; are = t.are; holds = e }, refl)) in
        able (made (S true) tape t.parts t.rest t.list (inr (n, (t.parts, t.encodes, refl))) t.are));
  }

  pub some_or_none_good : IsGoodTold (some_or_none extra node F)
  some_or_none_good = record {
    fills = if_next_are_sound (λ list. list ≡ []) (only extra node (constant (false, []))) (mapped (λ (ts : Parts). (true, ts)) F.contents)
        (only_are_sound extra node (constant (false, [])) (constant_sound (false, [])))
        (mapped_are_sound (λ (ts : Parts). (true, ts)) F.contents f.fills);
    encodes = some_encodes;
    names = some_names;
  }
