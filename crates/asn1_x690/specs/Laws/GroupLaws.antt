-- Laws of contents after a part, as those of an addition group are: they keep `IsGoodTold`.
use Rattle.std.proofs.Common.{◌≡◌, ℕ, zero, suc, ◌+◌, inl, inr, List, [], ◌∷◌, ◌++◌, Bool, length, refl, sym, ◌∙◌, ap, subst, arith, append_assoc}
use Rattle.std.specs.Prelude.{⊤}
use Rattle.asn1_schema.specs.declared.misfit.MisfitKind.TheVariants.{OtherPart, NoPart}
use Rattle.asn1_schema.specs.Pieces.{Piece, Absent, Parts}
use Rattle.asn1_schema.specs.TypeEncodings.{Misfit, AfterParts}
use Rattle.asn1_schema.specs.Values.{AreValues, none, more}
use Rattle.asn1_schema.specs.Laws.ContentsLaws.{mapped_are_sound}
use Rattle.asn1_schema.specs.Laws.ValueLaws.{as_many}
use Rattle.asn1_schema.specs.Laws.WritingLaws.{same_head, same_tail, not_empty, made}
use Rattle.asn1_x690.specs.TypeContents.{ToldContents, FillsWith, prefixed}
use Rattle.asn1_x690.specs.Laws.TypeContentsLaws.{IsGoodTold}
use Rattle.asn1_x690.specs.Laws.ToldLaws.{ArePresentTold, first_of, second_of}

module _ {K X : Type 0} (q : Piece) (node : ℕ) (F : ToldContents K X) where
  module _ (x : X) where
    abbrev B : Parts → List Bool → Type 0
    B xs l = FillsWith (prefixed q node F) x xs l

    abbrev BW : Parts → Misfit → Type 0
    BW tape e = (prefixed q node F).misfit x tape e

    -- the parts after the first
    after : (xs : Parts) (l : List Bool) → B xs l → (ys : Parts) × FillsWith F x ys l × (xs ≡ q ∷ ys)
    after xs l p =
        let v = p.0 in
        let e = p.2 in (
          v.1,
          subst (λ (y : X). FillsWith F y v.1 l) (sym (first_of (x, xs) (v.0, q ∷ v.1) e)) p.1,
          second_of (x, xs) (v.0, q ∷ v.1) e,
        )

    begun : (tape xs rest : Parts) (l : List Bool) → (p : B xs l) → tape ≡ xs ++ rest → tape ≡ q ∷ ((after xs l p).0 ++ rest)
    begun tape xs rest l p s = s ∙ ap (λ (zs : Parts). zs ++ rest) (after xs l p).2

  -- the first part does not say that a component is absent
  pub prefixed_present : (q ≡ Absent → ⊥) → ArePresentTold (prefixed q node F)
  prefixed_present not = record {
    each = λ x xs l p. let u = after x xs l p in record { first = q; others = u.0; are = u.2; present = not };
  }

  module _ (f : IsGoodTold F) where
    module _ (x : X) where
      prefixed_one : (tape xs ys rest other : Parts) (k l : List Bool) → B x xs k → B x ys l → tape ≡ xs ++ rest → tape ≡ ys ++ other
          → (xs ≡ ys) × (rest ≡ other) × (k ≡ l)
      prefixed_one tape xs ys rest other k l a b s t =
          let u = after x xs k a in
          let v = after x ys l b in
          let e = same_tail q q (u.0 ++ rest) (v.0 ++ other) (sym (begun x tape xs rest k a s) ∙ begun x tape ys other l b t) in
          let h = (f.encodes x).one (u.0 ++ rest) u.0 v.0 rest other k l u.1 v.1 refl e in
          (u.2 ∙ ap (λ (zs : Parts). q ∷ zs) h.0 ∙ sym v.2, h.1, h.2)

      prefixed_excludes : (tape : Parts) (e : Misfit) → BW x tape e → (xs rest : Parts) (l : List Bool) → B x xs l → tape ≡ xs ++ rest → ⊥
      prefixed_excludes [] e m xs rest l a s = not_empty q ((after x xs l a).0 ++ rest) (begun x [] xs rest l a s)
      prefixed_excludes (p ∷ ps) e (inl m) xs rest l a s =
          let u = after x xs l a in
          (f.encodes x).excludes ps e m.1 u.0 rest l u.1 (same_tail p q ps (u.0 ++ rest) (begun x (p ∷ ps) xs rest l a s))
      prefixed_excludes (p ∷ ps) e (inr m) xs rest l a s =
          m.0 (same_head p q ps ((after x xs l a).0 ++ rest) (begun x (p ∷ ps) xs rest l a s))

      prefixed_one_misfit : (tape : Parts) (e h : Misfit) → BW x tape e → BW x tape h → e ≡ h
      prefixed_one_misfit [] e h m n = m ∙ sym n
      prefixed_one_misfit (p ∷ ps) e h (inl m) (inl n) = (f.encodes x).one_misfit ps e h m.1 n.1
      prefixed_one_misfit (p ∷ ps) e h (inl m) (inr n) = absurd (n.0 m.0)
      prefixed_one_misfit (p ∷ ps) e h (inr m) (inl n) = absurd (m.0 n.0)
      prefixed_one_misfit (p ∷ ps) e h (inr m) (inr n) = m.1 ∙ sym n.1

      prefixed_covers : (tape : Parts) → ((e : Misfit) → BW x tape e → ⊥) → (AfterParts (B x) (λ l r. ⊤) tape → ⊥) → ⊥
      prefixed_covers [] sound able = sound (record { node = node; left = 0; kind = NoPart }) refl
      prefixed_covers (p ∷ ps) sound able =
          sound (record { node = node; left = length (p ∷ ps); kind = OtherPart })
          (inr (
            (λ same.
                (f.names x).covers ps
                (λ e m. sound e (inl (same, m)))
                (λ t. able
                (made (B x) (p ∷ ps) (q ∷ t.parts) t.rest t.list ((x, t.parts), t.encodes, refl)
                (ap (λ (i : Piece). i ∷ ps) same ∙ ap (λ (ys : Parts). q ∷ ys) t.are)))),
            refl,
          ))

    pub prefixed_good : IsGoodTold (prefixed q node F)
    prefixed_good = record {
      fills = mapped_are_sound (λ v. (v.0, q ∷ v.1)) F.contents f.fills;
      encodes = λ x. record { one = prefixed_one x; excludes = prefixed_excludes x; one_misfit = prefixed_one_misfit x };
      names = λ x. record { covers = prefixed_covers x };
    }

-- ---- values after one another

-- `k` values, and `m` others after them
pub record AreBoth (k m : ℕ) (xs : Parts) : Type 0 where
  pub held : Parts
  pub others : Parts
  pub first : AreValues k held
  pub second : AreValues m others
  pub are : xs ≡ held ++ others

pub values_split : (k m : ℕ) {n : ℕ} {xs : Parts} → AreValues n xs → n ≡ k + m → AreBoth k m xs
values_split zero m {n} {xs} v e = record { held = []; others = xs; first = none; second = as_many (omega (arith, e)) v; are = refl }
values_split (suc k) m none e = absurd (omega (arith, e))
values_split (suc k) m (more {n} p {held} {others} h o) e =
    let s = values_split k m o (omega (arith, e)) in
    record {
      held = p ∷ (held ++ s.held);
      others = s.others;
      first = more p h s.first;
      second = s.second;
      are = ap (λ (zs : Parts). p ∷ (held ++ zs)) s.are ∙ ap (λ (zs : Parts). p ∷ zs) (sym (append_assoc held s.held s.others));
    }
