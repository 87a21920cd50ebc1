-- Laws of contents that are one value, or that a part before them tells: each combinator keeps `IsGoodContents`.
use Rattle.std.proofs.Common.{◌≡◌, ℕ, inl, inr, List, [], ◌∷◌, ◌++◌, Bool, length, refl, sym, ◌∙◌, ap, subst}
use Rattle.std.specs.Prelude.{◌⊎◌, ⊤}
use Rattle.asn1_schema.specs.declared.misfit.MisfitKind.{MisfitKind}
use Rattle.asn1_schema.specs.declared.misfit.MisfitKind.TheVariants.{NoEncoding, OtherPart, NoPart}
use Rattle.asn1_schema.specs.Pieces.{Piece, Absent, Parts}
use Rattle.asn1_schema.specs.Encodings.{Contents, EncodesOne}
use Rattle.asn1_schema.specs.TypeEncodings.{Misfit, IsAtPart, TypeEncoding, AfterParts, EncodesUniquely, NamesEachMisfit}
use Rattle.asn1_schema.specs.Laws.ContentsLaws.{AreSound, invalid_contents_are_sound, only_are_sound, mapped_are_sound}
use Rattle.asn1_schema.specs.Laws.WritingLaws.{IsGood, ArePresent, same_head, same_tail, not_empty, made}
use Rattle.asn1_x690.specs.TypeContents.{ToldContents, FillsWith, invalid_type_contents, only_value, leaf_contents, told, permitted_contents}
use Rattle.asn1_x690.specs.Laws.ContentsLaws.{permitted_contents_are_sound}
use Rattle.asn1_x690.specs.Laws.HeadedLaws.{IsGoodContents}

-- contents of which all promises hold, where a part tells x
pub record IsGoodTold {K X : Type 0} (F : ToldContents K X) : Type 0 where
  pub fills : AreSound F.contents
  pub encodes : (x : X) → EncodesUniquely (FillsWith F x) (F.misfit x)
  pub names : (x : X) → NamesEachMisfit (FillsWith F x) (F.misfit x)

-- a relation that holds of no more
pub narrow : (P Q : Parts → List Bool → Type 0) (W : Parts → Misfit → Type 0) → ((xs : Parts) (a : List Bool) → P xs a → Q xs a)
    → EncodesUniquely Q W → EncodesUniquely P W
narrow P Q W into w = record {
  one = λ tape xs ys rest other a b p q s t. w.one tape xs ys rest other a b (into xs a p) (into ys b q) s t;
  excludes = λ tape e m xs rest a p s. w.excludes tape e m xs rest a (into xs a p) s;
  one_misfit = w.one_misfit;
}

-- a relation that holds of no less
pub widen : (P Q : Parts → List Bool → Type 0) (W : Parts → Misfit → Type 0) → ((xs : Parts) (a : List Bool) → P xs a → Q xs a)
    → NamesEachMisfit P W → NamesEachMisfit Q W
widen P Q W into w = record {
  covers = λ tape sound able. w.covers tape sound (λ t. able (made Q tape t.parts t.rest t.list (into t.parts t.list t.encodes) t.are));
}

pub invalid_type_contents_good : {K : Type 0} (fault : K) (kind : MisfitKind) (node : ℕ) → IsGoodContents (invalid_type_contents fault kind node)
invalid_type_contents_good fault kind node = record {
  fills = invalid_contents_are_sound fault node;
  encodes = record {
    one = λ tape xs ys rest other a b p q s t. absurd p;
    excludes = λ tape e m xs rest a p s. p;
    one_misfit = λ tape e g m n. m ∙ sym n;
  };
  names = record { covers = λ tape sound able. sound (record { node = node; left = length tape; kind = kind }) refl };
  present = λ xs c p. absurd p;
}

pub only_value_good : {K : Type 0} (extra : K) (node : ℕ) (A : TypeEncoding K) → IsGood A → ArePresent A → IsGoodContents (only_value extra node A)
only_value_good extra node A a there = record {
  fills = only_are_sound extra node A.encoding a.decodes;
  encodes = a.encodes;
  names = a.names;
  present = there.each;
}

-- ---- one part

module _ {K X : Type 0} (F : Contents K X) (is : X → Piece) (node : ℕ) (f : AreSound F) (one : EncodesOne F.fills)
    (alike : (x y : X) → is x ≡ is y → x ≡ y) (not : (x : X) (c : List Bool) → F.fills x c → is x ≡ Absent → ⊥) where
  abbrev P : Parts → List Bool → Type 0
  P xs c = (leaf_contents F is node).contents.fills xs c

  abbrev W : Parts → Misfit → Type 0
  W tape e = (leaf_contents F is node).misfit tape e

  begins : (tape xs rest : Parts) (c : List Bool) → (p : P xs c) → tape ≡ xs ++ rest → tape ≡ is p.0 ∷ rest
  begins tape xs rest c p s = s ∙ ap (λ (zs : Parts). zs ++ rest) p.2

  leaf_one : (tape xs ys rest other : Parts) (a b : List Bool) → P xs a → P ys b → tape ≡ xs ++ rest → tape ≡ ys ++ other
      → (xs ≡ ys) × (rest ≡ other) × (a ≡ b)
  leaf_one tape xs ys rest other a b p q s t =
      let e = sym (begins tape xs rest a p s) ∙ begins tape ys other b q t in
      let x : p.0 ≡ q.0 = alike p.0 q.0 (same_head (is p.0) (is q.0) rest other e) in (
        p.2 ∙ ap (λ (y : X). is y ∷ []) x ∙ sym q.2,
        same_tail (is p.0) (is q.0) rest other e,
        one.one q.0 a b (subst (λ (y : X). F.fills y a) x p.1) q.1,
      )

  leaf_excludes : (tape : Parts) (e : Misfit) → W tape e → (xs rest : Parts) (c : List Bool) → P xs c → tape ≡ xs ++ rest → ⊥
  leaf_excludes [] e m xs rest c p s = not_empty (is p.0) rest (begins [] xs rest c p s)
  leaf_excludes (q ∷ ps) e (inl m) xs rest c p s =
      let x : p.0 ≡ m.0 = alike p.0 m.0 (sym (same_head q (is p.0) ps rest (begins (q ∷ ps) xs rest c p s)) ∙ m.1) in
      m.2 (c, subst (λ (y : X). F.fills y c) x p.1)
  leaf_excludes (q ∷ ps) e (inr m) xs rest c p s = m.0 p.0 (same_head q (is p.0) ps rest (begins (q ∷ ps) xs rest c p s))

  leaf_one_misfit : (tape : Parts) (e g : Misfit) → W tape e → W tape g → e ≡ g
  leaf_one_misfit [] e g m n = m ∙ sym n
  leaf_one_misfit (q ∷ ps) e g (inl m) (inl n) = m.3 ∙ sym n.3
  leaf_one_misfit (q ∷ ps) e g (inl m) (inr n) = absurd (n.0 m.0 m.1)
  leaf_one_misfit (q ∷ ps) e g (inr m) (inl n) = absurd (m.0 n.0 n.1)
  leaf_one_misfit (q ∷ ps) e g (inr m) (inr n) = m.1 ∙ sym n.1

  leaf_covers : (tape : Parts) → ((e : Misfit) → W tape e → ⊥) → (AfterParts P (λ l r. ⊤) tape → ⊥) → ⊥
  leaf_covers [] sound able = sound (record { node = node; left = 0; kind = NoPart }) refl
  leaf_covers (q ∷ ps) sound able =
      sound (record { node = node; left = length (q ∷ ps); kind = OtherPart })
      (inr (
        (λ x e.
            sound (record { node = node; left = length (q ∷ ps); kind = NoEncoding })
            (inl (
              x,
              e,
              (λ can. able
                  (made P (q ∷ ps) (is x ∷ []) ps can.0 (x, can.1, refl) (ap (λ (i : Piece). i ∷ ps) e))),
              refl,
            ))),
        refl,
      ))

  pub leaf_contents_good : IsGoodContents (leaf_contents F is node)
  leaf_contents_good = record {
    fills = mapped_are_sound (λ x. is x ∷ []) F f;
    encodes = record { one = leaf_one; excludes = leaf_excludes; one_misfit = leaf_one_misfit };
    names = record { covers = leaf_covers };
    present = λ xs c p. record { first = is p.0; others = []; are = p.2; present = not p.0 c p.1 };
  }

-- ---- a part that tells what the contents tell

module _ {K X : Type 0} (is : X → Piece) (Yes : X → Type 0) (kind : K) (node : ℕ) (F : ToldContents K X) (f : IsGoodTold F)
    (alike : (x y : X) → is x ≡ is y → x ≡ y) (not : (x : X) → is x ≡ Absent → ⊥) where
  abbrev T : Parts → List Bool → Type 0
  T xs c = (told is Yes kind node F).contents.fills xs c

  abbrev TW : Parts → Misfit → Type 0
  TW tape e = (told is Yes kind node F).misfit tape e

  -- the misfit of the part of x, or of a part after it
  abbrev V : X → Parts → Parts → Misfit → Type 0
  V x tape rest e = (¬ (Yes x) × IsAtPart NoEncoding node tape e) ⊎ (Yes x × F.misfit x rest e)

  front : (tape xs rest : Parts) (c : List Bool) → (p : T xs c) → tape ≡ xs ++ rest → tape ≡ is p.0.0 ∷ (p.0.1 ++ rest)
  front tape xs rest c p s = s ∙ ap (λ (zs : Parts). zs ++ rest) p.2

  fills_with : (xs : Parts) (c : List Bool) (p : T xs c) (x : X) → p.0.0 ≡ x → FillsWith F x p.0.1 c
  fills_with xs c p x e = subst (λ (y : X). FillsWith F y p.0.1 c) e p.1.0

  told_one : (tape xs ys rest other : Parts) (a b : List Bool) → T xs a → T ys b → tape ≡ xs ++ rest → tape ≡ ys ++ other
      → (xs ≡ ys) × (rest ≡ other) × (a ≡ b)
  told_one tape xs ys rest other a b p q s t =
      let e = sym (front tape xs rest a p s) ∙ front tape ys other b q t in
      let x : p.0.0 ≡ q.0.0 = alike p.0.0 q.0.0 (same_head (is p.0.0) (is q.0.0) (p.0.1 ++ rest) (q.0.1 ++ other) e) in
      let g = (f.encodes q.0.0).one (p.0.1 ++ rest) p.0.1 q.0.1 rest other a b (fills_with xs a p q.0.0 x) (fills_with ys b q q.0.0 refl)
      refl (same_tail (is p.0.0) (is q.0.0) (p.0.1 ++ rest) (q.0.1 ++ other) e) in
      (p.2 ∙ ap (λ (y : X). is y ∷ p.0.1) x ∙ ap (λ (zs : Parts). is q.0.0 ∷ zs) g.0 ∙ sym q.2, g.1, g.2)

  value_excludes : (x : X) (tape ps : Parts) (e : Misfit) → V x tape ps e → (xs rest : Parts) (c : List Bool) → (p : T xs c)
      → p.0.0 ≡ x → ps ≡ p.0.1 ++ rest → ⊥
  value_excludes x tape ps e (inl m) xs rest c p same s = m.0 (subst Yes same p.1.1)
  value_excludes x tape ps e (inr m) xs rest c p same s =
      (f.encodes x).excludes ps e m.1 p.0.1 rest c (fills_with xs c p x same) s

  told_excludes : (tape : Parts) (e : Misfit) → TW tape e → (xs rest : Parts) (c : List Bool) → T xs c → tape ≡ xs ++ rest → ⊥
  told_excludes [] e m xs rest c p s = not_empty (is p.0.0) (p.0.1 ++ rest) (front [] xs rest c p s)
  told_excludes (q ∷ ps) e (inl (x, h, m)) xs rest c p s =
      let g = front (q ∷ ps) xs rest c p s in
      value_excludes x (q ∷ ps) ps e m xs rest c p (alike p.0.0 x (sym (same_head q (is p.0.0) ps (p.0.1 ++ rest) g) ∙ h))
      (same_tail q (is p.0.0) ps (p.0.1 ++ rest) g)
  told_excludes (q ∷ ps) e (inr m) xs rest c p s =
      m.0 p.0.0 (same_head q (is p.0.0) ps (p.0.1 ++ rest) (front (q ∷ ps) xs rest c p s))

  value_one : (x y : X) (tape ps : Parts) (e g : Misfit) → x ≡ y → V x tape ps e → V y tape ps g → e ≡ g
  value_one x y tape ps e g h (inl m) (inl n) = m.1 ∙ sym n.1
  value_one x y tape ps e g h (inl m) (inr n) = absurd (m.0 (subst Yes (sym h) n.0))
  value_one x y tape ps e g h (inr m) (inl n) = absurd (n.0 (subst Yes h m.0))
  value_one x y tape ps e g h (inr m) (inr n) =
      (f.encodes y).one_misfit ps e g (subst (λ (z : X). F.misfit z ps e) h m.1) n.1

  told_one_misfit : (tape : Parts) (e g : Misfit) → TW tape e → TW tape g → e ≡ g
  told_one_misfit [] e g m n = m ∙ sym n
  told_one_misfit (q ∷ ps) e g (inl (x, h, m)) (inl (y, i, n)) = value_one x y (q ∷ ps) ps e g (alike x y (sym h ∙ i)) m n
  told_one_misfit (q ∷ ps) e g (inl (x, h, m)) (inr n) = absurd (n.0 x h)
  told_one_misfit (q ∷ ps) e g (inr m) (inl (y, i, n)) = absurd (m.0 y i)
  told_one_misfit (q ∷ ps) e g (inr m) (inr n) = m.1 ∙ sym n.1

  told_covers : (tape : Parts) → ((e : Misfit) → TW tape e → ⊥) → (AfterParts T (λ l r. ⊤) tape → ⊥) → ⊥
  told_covers [] sound able = sound (record { node = node; left = 0; kind = NoPart }) refl
  told_covers (q ∷ ps) sound able =
      sound (record { node = node; left = length (q ∷ ps); kind = OtherPart })
      (inr (
        (λ x h.
            sound (record { node = node; left = length (q ∷ ps); kind = NoEncoding })
            (inl (
              x,
              h,
              inl (
                (λ yes.
                    (f.names x).covers ps
                    (λ e m. sound e (inl (x, h, inr (yes, m))))
                    (λ t. able
                    (made T (q ∷ ps) (is x ∷ t.parts) t.rest t.list ((x, t.parts), (t.encodes, yes), refl)
                    (ap (λ (i : Piece). i ∷ ps) h ∙ ap (λ (ys : Parts). is x ∷ ys) t.are)))),
                refl,
              ),
            ))),
        refl,
      ))

  pub told_good : IsGoodContents (told is Yes kind node F)
  told_good = record {
    fills = mapped_are_sound (λ v. is v.0 ∷ v.1) (permitted_contents (λ v. Yes v.0) kind node F.contents)
        (permitted_contents_are_sound (λ v. Yes v.0) kind node F.contents f.fills);
    encodes = record { one = told_one; excludes = told_excludes; one_misfit = told_one_misfit };
    names = record { covers = told_covers };
    present = λ xs c p. record { first = is p.0.0; others = p.0.1; are = p.2; present = not p.0.0 };
  }
