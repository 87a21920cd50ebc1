-- Laws of components, each of which is present or absent by a bit of a list.
use Rattle.std.proofs.Common.{◌≡◌, ℕ, ◌+◌, inl, inr, List, [], ◌∷◌, ◌++◌, Bool, true, false, length, refl, sym, ◌∙◌, ap, subst, add-zero}
use Rattle.asn1_schema.specs.Pieces.{Absent, Parts}
use Rattle.asn1_schema.specs.Encodings.{constant, in_turn}
use Rattle.asn1_schema.specs.TypeEncodings.{Misfit, TypeEncoding, AfterHeader, PairMisfit, no_bits_left, end_of_components, mandatory, IsAbsent, by_first_bit, optional}
use Rattle.asn1_schema.specs.Laws.EncodingLaws.{IsSound, constant_sound, invalid_sound}
use Rattle.asn1_schema.specs.Laws.PositionLaws.{in_turn_sound}
use Rattle.asn1_schema.specs.Laws.WritingLaws.{EncodesUniquelyBy, NamesEachMisfitBy, AfterPartsBy, IsGoodAfter, ArePresent, same_head, same_tail, Pair, ahead, pair_encodes, pair_names}
use Rattle.asn1_schema.specs.Laws.TypeLaws.{IsGoodEverywhere}
use Rattle.asn1_schema.specs.Laws.HeaderLaws.{IsGoodAfterEverywhere}

-- ---- components

pub end_of_components_good : {K : Type 0} (fault : K) (node at : ℕ) → IsGoodAfter (end_of_components fault node at)
end_of_components_good fault node at = record {
  decodes = decodes;
  encodes = record { one = one; excludes = λ tape e m x xs rest a p s. m; one_misfit = λ tape e g m n. absurd m };
  names = record {
    covers = λ tape sound able.
        able (record { value = []; parts = []; list = []; rest = tape; encodes = (refl, refl); are = refl });
  };
}
  where
    decodes : (bits : List Bool) → IsSound (no_bits_left fault node bits)
    decodes [] = constant_sound []
    decodes (b ∷ bits) = invalid_sound fault node

    one : (x y : List Bool) (tape xs ys rest other : Parts) (k l : List Bool) → (no_bits_left fault node x).encodes xs k
        → (no_bits_left fault node y).encodes ys l → tape ≡ xs ++ rest → tape ≡ ys ++ other
        → (x ≡ y) × (xs ≡ ys) × (rest ≡ other) × (k ≡ l)
    one [] [] tape xs ys rest other k l p q s t = (
      refl,
      p.0 ∙ sym q.0,
      sym (s ∙ ap (λ (zs : Parts). zs ++ rest) p.0) ∙ t ∙ ap (λ (zs : Parts). zs ++ other) q.0,
      p.1 ∙ sym q.1,
    )
    one [] (b ∷ bits) tape xs ys rest other k l p q s t = absurd q
    one (b ∷ bits) y tape xs ys rest other k l p q s t = absurd p

module _ {K : Type 0} (A : ℕ → TypeEncoding K) (F : ℕ → AfterHeader K (List Bool)) (a : IsGoodEverywhere A)
    (f : IsGoodAfterEverywhere F) (at : ℕ) where
  abbrev Q : ℕ → List Bool → Parts → List Bool → Type 0
  Q n x xs l = ((F n).after x).encodes xs l

  abbrev U : ℕ → Parts → Misfit → Type 0
  U n tape e = (F n).misfit tape e

  abbrev T : List Bool → Parts → List Bool → Type 0
  T x xs l = Pair (A at) Q U at (a at).encodes (λ n. (f n).encodes) x xs l

  second : EncodesUniquelyBy T (PairMisfit (A at) U at)
  second = pair_encodes (A at) Q U at (a at).encodes (λ n. (f n).encodes)

  names_second : NamesEachMisfitBy T (PairMisfit (A at) U at)
  names_second = pair_names (A at) Q U at (a at).encodes (λ n. (f n).encodes) (a at).names (λ n. (f n).names)

  second_sound : (bits : List Bool)
      → IsSound (in_turn (λ n. (A n).encoding) (λ ts us. ts ++ us) (λ ts n. (F n).after bits) at)
  second_sound bits =
      in_turn_sound (λ n. (A n).encoding) (λ ts us. ts ++ us) (λ ts n. (F n).after bits) at (a at).decodes (λ ts n. (f n).decodes bits)

  pub mandatory_good : IsGoodAfter (mandatory A F at)
  mandatory_good = record { decodes = second_sound; encodes = second; names = names_second }

  -- ---- a component that may be absent

  module _ (fault : K) (node : ℕ) (there : ArePresent (A at)) where
    abbrev ByBits : List Bool → Parts → List Bool → Type 0
    ByBits bits xs l = (by_first_bit fault node A F at bits).encodes xs l

    abbrev N : List Bool → Parts → List Bool → Type 0
    N bits xs l = (others : Parts) × (xs ≡ Absent ∷ others) × Q at bits others l

    abbrev W : Parts → Misfit → Type 0
    W tape e = (optional fault node A F at).misfit tape e

    begun : (bits : List Bool) (tape xs rest : Parts) (l : List Bool) → T bits xs l → tape ≡ xs ++ rest → IsAbsent tape → ⊥
    begun bits tape xs rest l r s is =
        let p = there.each r.value r.front r.first in
        p.present
        (same_head p.first Absent (p.others ++ (r.after ++ rest)) is.0
        (sym (ahead (A at) Q U at (a at).encodes (λ n. (f n).encodes) bits tape xs rest l r s
        ∙ ap (λ (zs : Parts). zs ++ (r.after ++ rest)) p.are) ∙ is.1))

    -- the absent component takes no bits
    into : (bits : List Bool) (xs : Parts) (l : List Bool) → ByBits (false ∷ bits) xs l → N bits xs l
    into bits xs l r =
        let e : r.front ≡ [] = r.first.1 in
        let m : Q at bits r.after r.rest =
        subst (λ (n : ℕ). Q n bits r.after r.rest) (add-zero at) (subst (λ (k : List Bool). Q (at + length k) bits r.after r.rest) e r.second) in (
          r.after,
          r.is ∙ ap (λ (zs : Parts). zs ++ r.after) r.first.0,
          subst (λ (k : List Bool). Q at bits r.after k) (sym (r.parts ∙ ap (λ (k : List Bool). k ++ r.rest) e)) m,
        )

    back : (bits : List Bool) (others : Parts) (l : List Bool) → Q at bits others l → ByBits (false ∷ bits) (Absent ∷ others) l
    back bits others l m = record {
      value = Absent ∷ [];
      after = others;
      front = [];
      rest = l;
      first = (refl, refl);
      second = subst (λ (n : ℕ). Q n bits others l) (sym (add-zero at)) m;
      is = refl;
      parts = refl;
    }

    gone : (bits : List Bool) (tape xs rest : Parts) (l : List Bool) → (x : N bits xs l) → tape ≡ xs ++ rest
        → tape ≡ Absent ∷ (x.0 ++ rest)
    gone bits tape xs rest l x s = s ∙ ap (λ (zs : Parts). zs ++ rest) x.1

    absent_one : (x y : List Bool) (tape xs ys rest other : Parts) (k l : List Bool) → N x xs k → N y ys l → tape ≡ xs ++ rest
        → tape ≡ ys ++ other → (false ∷ x ≡ false ∷ y) × (xs ≡ ys) × (rest ≡ other) × (k ≡ l)
    absent_one x y tape xs ys rest other k l p q s t =
        let e = same_tail Absent Absent (p.0 ++ rest) (q.0 ++ other)
        (sym (gone x tape xs rest k p s) ∙ gone y tape ys other l q t) in
        let g = (f at).encodes.one x y (p.0 ++ rest) p.0 q.0 rest other k l p.2 q.2 refl e in
        (ap (λ (bits : List Bool). false ∷ bits) g.0, p.1 ∙ ap (λ (zs : Parts). Absent ∷ zs) g.1 ∙ sym q.1, g.2, g.3)

    present_one : (x y : List Bool) (tape xs ys rest other : Parts) (k l : List Bool) → T x xs k → T y ys l → tape ≡ xs ++ rest
        → tape ≡ ys ++ other → (true ∷ x ≡ true ∷ y) × (xs ≡ ys) × (rest ≡ other) × (k ≡ l)
    present_one x y tape xs ys rest other k l p q s t =
        let g = second.one x y tape xs ys rest other k l p q s t in
        (ap (λ (bits : List Bool). true ∷ bits) g.0, g.1, g.2, g.3)

    optional_one : (x y : List Bool) (tape xs ys rest other : Parts) (k l : List Bool) → ByBits x xs k → ByBits y ys l → tape ≡ xs ++ rest
        → tape ≡ ys ++ other → (x ≡ y) × (xs ≡ ys) × (rest ≡ other) × (k ≡ l)
    optional_one [] y tape xs ys rest other k l p q s t = absurd p
    optional_one (false ∷ x) [] tape xs ys rest other k l p q s t = absurd q
    optional_one (true ∷ x) [] tape xs ys rest other k l p q s t = absurd q
    optional_one (false ∷ x) (false ∷ y) tape xs ys rest other k l p q s t =
        absent_one x y tape xs ys rest other k l (into x xs k p) (into y ys l q) s t
    optional_one (false ∷ x) (true ∷ y) tape xs ys rest other k l p q s t =
        absurd (begun y tape ys other l q t ((into x xs k p).0 ++ rest, gone x tape xs rest k (into x xs k p) s))
    optional_one (true ∷ x) (false ∷ y) tape xs ys rest other k l p q s t =
        absurd (begun x tape xs rest k p s ((into y ys l q).0 ++ other, gone y tape ys other l (into y ys l q) t))
    optional_one (true ∷ x) (true ∷ y) tape xs ys rest other k l p q s t = present_one x y tape xs ys rest other k l p q s t

    optional_excludes : (tape : Parts) (e : Misfit) → W tape e → (x : List Bool) (xs rest : Parts) (l : List Bool) → ByBits x xs l
        → tape ≡ xs ++ rest → ⊥
    optional_excludes tape e m [] xs rest l p s = p
    optional_excludes tape e (inl m) (true ∷ x) xs rest l p s = begun x tape xs rest l p s (m.0, m.1)
    optional_excludes tape e (inr m) (true ∷ x) xs rest l p s = second.excludes tape e m.1 x xs rest l p s
    optional_excludes tape e (inl m) (false ∷ x) xs rest l p s =
        let n = into x xs l p in
        (f at).encodes.excludes m.0 e m.2 x n.0 rest l n.2
        (same_tail Absent Absent m.0 (n.0 ++ rest) (sym m.1 ∙ gone x tape xs rest l n s))
    optional_excludes tape e (inr m) (false ∷ x) xs rest l p s =
        let n = into x xs l p in
        m.0 (n.0 ++ rest, gone x tape xs rest l n s)

    optional_one_misfit : (tape : Parts) (e g : Misfit) → W tape e → W tape g → e ≡ g
    optional_one_misfit tape e g (inl m) (inl n) =
        let same : m.0 ≡ n.0 = same_tail Absent Absent m.0 n.0 (sym m.1 ∙ n.1) in
        (f at).encodes.one_misfit n.0 e g (subst (λ (t : Parts). (F at).misfit t e) same m.2) n.2
    optional_one_misfit tape e g (inl m) (inr n) = absurd (n.0 (m.0, m.1))
    optional_one_misfit tape e g (inr m) (inl n) = absurd (m.0 (n.0, n.1))
    optional_one_misfit tape e g (inr m) (inr n) = second.one_misfit tape e g m.1 n.1

    optional_sound : (bits : List Bool) → IsSound (by_first_bit fault node A F at bits)
    optional_sound [] = invalid_sound fault node
    optional_sound (false ∷ bits) =
        in_turn_sound (λ n. constant (Absent ∷ [])) (λ ts us. ts ++ us) (λ ts n. (F n).after bits) at (constant_sound (Absent ∷ []))
        (λ ts n. (f n).decodes bits)
    optional_sound (true ∷ bits) = second_sound bits

    optional_covers : (tape : Parts) → ((e : Misfit) → W tape e → ⊥) → (AfterPartsBy ByBits tape → ⊥) → ⊥
    optional_covers tape sound able =
        let present : IsAbsent tape → ⊥ = λ is.
        (f at).names.covers is.0 (λ e m. sound e (inl (is.0, is.1, m)))
        (λ t. able
        (record {
          value = false ∷ t.value;
          parts = Absent ∷ t.parts;
          list = t.list;
          rest = t.rest;
          encodes = back t.value t.parts t.list t.encodes;
          are = is.1 ∙ ap (λ (zs : Parts). Absent ∷ zs) t.are;
        })) in
        names_second.covers tape (λ e m. sound e (inr (present, m)))
        (λ t. able
        (record {
          value = true ∷ t.value;
          parts = t.parts;
          list = t.list;
          rest = t.rest;
          encodes = t.encodes;
          are = t.are;
        }))

    pub optional_good : IsGoodAfter (optional fault node A F at)
    optional_good = record {
      decodes = optional_sound;
      encodes = record { one = optional_one; excludes = optional_excludes; one_misfit = optional_one_misfit };
      names = record { covers = optional_covers };
    }
