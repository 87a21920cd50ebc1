-- Laws of a list of any number of items.
use Rattle.std.proofs.Common.{◌≡◌, ℕ, zero, suc, ◌+◌, ◌*◌, ◌/◌, ◌%◌, ◌<◌, ◌≤◌, nat_lt, inl, inr, Bool, true, false, List, [], ◌∷◌, ◌++◌, length, refl, sym, ◌∙◌, ap, subst, arith}
use Rattle.std.specs.Prelude.{◌⊎◌, ⊤}
use Rattle.std.proofs.lemmas.List.{append-nil}
use Rattle.std.proofs.lemmas.Bool.{cases_lt}
use Rattle.asn1_schema.specs.declared.misfit.MisfitKind.TheVariants.{NoPart, NoEncoding, OtherPart}
use Rattle.asn1_schema.specs.Pieces.{Piece, Absent, Count, Parts}
use Rattle.asn1_schema.specs.Encodings.{Encoding, constant, invalid, cases}
use Rattle.asn1_schema.specs.TypeEncodings.{TypeEncoding, Misfit, AfterParts, nothing, both}
use Rattle.asn1_schema.specs.Laws.EncodingLaws.{invalid_sound}
use Rattle.asn1_schema.specs.Laws.ByStructure.{cases_of, constant_of, in_turn_of}
use Rattle.asn1_schema.specs.Laws.WritingLaws.{IsGood, same_head, same_tail, not_empty, made}
use Rattle.asn1_schema.specs.Laws.TypeLaws.{IsGoodEverywhere, nothing_good, both_good}
use Rattle.asn1_schema.specs.Laws.HeaderLaws.{BeginsWith}
use Rattle.asn1_x691.specs.declared.fault.FaultKind.{FaultKind}
use Rattle.asn1_x691.specs.Fragments.{units_next, all_units}
use Rattle.asn1_x691.specs.Lists.{numbered_items, number_of_units, fragment_then, items_below, whole_fragments_then, items_in_fragments, IsCountable, ListMisfit, list_where}
use Rattle.asn1_x691.specs.Laws.FragmentLaws.{all_units_sound}
use Rattle.asn1_x691.specs.Laws.GoodTypes.{IsType}
use Rattle.asn1_x691.specs.Laws.PieceLaws.{count_alike}
use Rattle.asn1_x691.specs.Laws.ListLaws.{AreFragments, number_good, told, pair}
use Rattle.asn1_x691.specs.Laws.ListMadeLaws.{made_of}

module _ (A : ℕ → ℕ → TypeEncoding FaultKind) (aligned : Bool) (node : ℕ) where
  abbrev Items : ℕ → ℕ → TypeEncoding FaultKind
  Items = items_in_fragments A aligned node

  module _ (most : ℕ) (Yes No : ℕ → Type 0) (kind : FaultKind) where
    abbrev H : ℕ → Parts → List Bool → Type 0
    H at xs k = (list_where A aligned node most Yes No kind at).encoding.encodes xs k

    -- `count` items, with the part that tells their number
    pub record IsList (at : ℕ) (xs : Parts) (k : List Bool) : Type 0 where
      pub count : ℕ
      pub items : Parts
      pub are : xs ≡ Count count ∷ items
      pub countable : IsCountable most Yes count
      pub encodes : (Items count at).encoding.encodes items k

    size_of : (n : ℕ) (x xs : Parts) (l : List Bool) → (cases {K = FaultKind} (Yes n) (constant x) (No n) (invalid kind node)).encodes xs l
        → Yes n × (xs ≡ x) × (l ≡ [])
    size_of n x xs l (inl p) = (p.0, p.1.0, p.1.1)
    size_of n x xs l (inr p) = absurd p.1

    fits : (whole left n : ℕ) → (whole < most) ⊎ ((whole ≡ most) × (left < 16384)) → left < 65536 → n ≡ 65536 * whole + left
        → n < 65536 * most + 16384
    fits whole left n (inl w) few e = omega (arith, w, few, e)
    fits whole left n (inr w) few e = let a = w.0 in let b = w.1 in omega (arith, a, b, e)

    pub list_told : (at : ℕ) (xs : Parts) (k : List Bool) → H at xs k → IsList at xs k
    list_told at xs k p =
        let g = size_of p.value.0 (Count p.value.0 ∷ p.value.1) p.after p.rest p.second in
        let t = told A aligned node most at p.value p.front p.first in
        let is = t.is in
        let few = t.few in
        let w : t.whole ≡ p.value.0 / 65536 = omega (arith, is, few) in
        let l : t.left ≡ p.value.0 % 65536 = omega (arith, is, few) in
        let e : k ≡ p.front = p.parts ∙ ap (λ (m : List Bool). p.front ++ m) g.2 ∙ append-nil p.front in
        let R : ℕ → ℕ → TypeEncoding FaultKind = λ i. items_below A aligned node (nat_lt i 16384) i in
        record {
          count = p.value.0;
          items = p.value.1;
          are = p.is ∙ g.1;
          countable = (g.0, fits t.whole t.left p.value.0 t.fit few is);
          encodes = subst (λ (m : List Bool). (Items p.value.0 at).encoding.encodes p.value.1 m) (sym e)
              (subst (λ (i : ℕ). (whole_fragments_then A aligned node i (R (p.value.0 % 65536)) at).encoding.encodes p.value.1 p.front) w
              (subst (λ (i : ℕ). (whole_fragments_then A aligned node t.whole (R i) at).encoding.encodes p.value.1 p.front) l t.encodes));
        }

    fit_of : (n : ℕ) → n < 65536 * most + 16384 → (n / 65536 < most) ⊎ ((n / 65536 ≡ most) × (n % 65536 < 16384))
    fit_of n h = elim (cases_lt (n / 65536) most) [ inl lt ↦ inl lt | inr le ↦ inr (omega (arith, h, le), omega (arith, h, le)) ]

    pub list_made : (n at : ℕ) (xs : Parts) (k : List Bool) → IsCountable most Yes n → (Items n at).encoding.encodes xs k
        → H at (Count n ∷ xs) k
    list_made n at xs k c p =
        let e : 65536 * (n / 65536) + n % 65536 ≡ n = omega arith in
        let q : (numbered_items A aligned node most at).encodes (pair n xs) k =
        subst (λ (i : ℕ). (numbered_items A aligned node most at).encodes (pair i xs) k) e
        (made_of A aligned node most (n / 65536) (n % 65536) at xs k (omega arith) (fit_of n c.1) p) in record {
          value = pair n xs;
          after = Count n ∷ xs;
          front = k;
          rest = [];
          first = q;
          second = inl (c.0, (refl, refl));
          is = refl;
          parts = sym (append-nil k);
        }

    pub list_begins : (at : ℕ) (P : Piece → Type 0) → ((n : ℕ) → Yes n → P (Count n))
        → BeginsWith P (list_where A aligned node most Yes No kind at)
    list_begins at P each = record {
      each = λ xs k p. let t = list_told at xs k p in (Count t.count, t.items, t.are, each t.count t.countable.0);
    }

  -- ---- laws

  module _ (a : (n : ℕ) → IsGoodEverywhere (A n)) where
    fragment_good : (n : ℕ) (R : ℕ → TypeEncoding FaultKind) → IsGoodEverywhere R → IsGoodEverywhere (fragment_then A aligned node n R)
    fragment_good n R r =
        both_good (number_of_units A aligned node n) (both (A n) R) (number_good A aligned node n) (both_good (A n) R (a n) r)

    below_good : (b : Bool) (n : ℕ) → IsGoodEverywhere (items_below A aligned node b n)
    below_good true n = fragment_good n nothing nothing_good
    below_good false n =
        fragment_good (16384 * (n / 16384)) (fragment_then A aligned node (n % 16384) nothing) (fragment_good (n % 16384) nothing nothing_good)

    whole_good : (n : ℕ) (R : ℕ → TypeEncoding FaultKind) → IsGoodEverywhere R → IsGoodEverywhere (whole_fragments_then A aligned node n R)
    whole_good zero R r = r
    whole_good (suc n) R r = fragment_good 65536 (whole_fragments_then A aligned node n R) (whole_good n R r)

    items_good : (n : ℕ) → IsGoodEverywhere (Items n)
    items_good n =
        whole_good (n / 65536) (items_below A aligned node (nat_lt (n % 65536) 16384) (n % 65536))
        (below_good (nat_lt (n % 65536) 16384) (n % 65536))

    module _ (most : ℕ) (Yes No : ℕ → Type 0) (kind : FaultKind) (apart : (n : ℕ) → Yes n → No n → ⊥) (at : ℕ) where
      abbrev L : Parts → List Bool → Type 0
      L xs k = (list_where A aligned node most Yes No kind at).encoding.encodes xs k

      abbrev W : Parts → Misfit → Type 0
      W tape e = (list_where A aligned node most Yes No kind at).misfit tape e

      abbrev T : Parts → List Bool → Type 0
      T xs k = IsList most Yes No kind at xs k

      front : (tape xs rest : Parts) (k : List Bool) (r : T xs k) → tape ≡ xs ++ rest → tape ≡ Count r.count ∷ (r.items ++ rest)
      front tape xs rest k r s = s ∙ ap (λ (zs : Parts). zs ++ rest) r.are

      one_of : (tape xs ys rest other : Parts) (k l : List Bool) → T xs k → T ys l → tape ≡ xs ++ rest → tape ≡ ys ++ other
          → (xs ≡ ys) × (rest ≡ other) × (k ≡ l)
      one_of tape xs ys rest other k l p q s t =
          let e = sym (front tape xs rest k p s) ∙ front tape ys other l q t in
          let c : p.count ≡ q.count =
          count_alike p.count q.count (same_head (Count p.count) (Count q.count) (p.items ++ rest) (q.items ++ other) e) in
          let m = subst (λ (n : ℕ). (Items n at).encoding.encodes p.items k) c p.encodes in
          let g = (items_good q.count at).encodes.one (p.items ++ rest) p.items q.items rest other k l m q.encodes refl
          (same_tail (Count p.count) (Count q.count) (p.items ++ rest) (q.items ++ other) e) in (
            p.are ∙ ap (λ (n : ℕ). Count n ∷ p.items) c ∙ ap (λ (zs : Parts). Count q.count ∷ zs) g.0 ∙ sym q.are,
            g.1,
            g.2,
          )

      abbrev M : ℕ → Parts → Parts → Misfit → Type 0
      M n tape rest e = (IsCountable most Yes n × (Items n at).misfit rest e)
          ⊎ (¬ (IsCountable most Yes n) × (e ≡ record { node = node; left = length tape; kind = NoEncoding }))

      count_excludes : (n : ℕ) (tape ps : Parts) (e : Misfit) → M n tape ps e → (xs rest : Parts) (k : List Bool) (r : T xs k)
          → r.count ≡ n → ps ≡ r.items ++ rest → ⊥
      count_excludes n tape ps e (inl m) xs rest k r c s =
          (items_good n at).encodes.excludes ps e m.1 r.items rest k (subst (λ (i : ℕ). (Items i at).encoding.encodes r.items k) c r.encodes) s
      count_excludes n tape ps e (inr m) xs rest k r c s = m.0 (subst (λ (i : ℕ). IsCountable most Yes i) c r.countable)

      excludes_of : (tape : Parts) (e : Misfit) → W tape e → (xs rest : Parts) (k : List Bool) → T xs k → tape ≡ xs ++ rest → ⊥
      excludes_of [] e m xs rest k r s = not_empty (Count r.count) (r.items ++ rest) (front [] xs rest k r s)
      excludes_of (p ∷ ps) e (inr m) xs rest k r s =
          m.0 r.count (same_head p (Count r.count) ps (r.items ++ rest) (front (p ∷ ps) xs rest k r s))
      excludes_of (p ∷ ps) e (inl (n, h, m)) xs rest k r s =
          let f = front (p ∷ ps) xs rest k r s in
          count_excludes n (p ∷ ps) ps e m xs rest k r
          (count_alike r.count n (sym (same_head p (Count r.count) ps (r.items ++ rest) f) ∙ h))
          (same_tail p (Count r.count) ps (r.items ++ rest) f)

      count_one : (n : ℕ) (tape ps : Parts) (e g : Misfit) → M n tape ps e → M n tape ps g → e ≡ g
      count_one n tape ps e g (inl m) (inl h) = (items_good n at).encodes.one_misfit ps e g m.1 h.1
      count_one n tape ps e g (inl m) (inr h) = absurd (h.0 m.0)
      count_one n tape ps e g (inr m) (inl h) = absurd (m.0 h.0)
      count_one n tape ps e g (inr m) (inr h) = m.1 ∙ sym h.1

      one_misfit_of : (tape : Parts) (e g : Misfit) → W tape e → W tape g → e ≡ g
      one_misfit_of [] e g m h = m ∙ sym h
      one_misfit_of (p ∷ ps) e g (inl m) (inl h) =
          let c : m.0 ≡ h.0 = count_alike m.0 h.0 (sym m.1 ∙ h.1) in
          count_one h.0 (p ∷ ps) ps e g (subst (λ (n : ℕ). M n (p ∷ ps) ps e) c m.2) h.2
      one_misfit_of (p ∷ ps) e g (inl m) (inr h) = absurd (h.0 m.0 m.1)
      one_misfit_of (p ∷ ps) e g (inr m) (inl h) = absurd (m.0 h.0 h.1)
      one_misfit_of (p ∷ ps) e g (inr m) (inr h) = m.1 ∙ sym h.1

      covers_of : (tape : Parts) → ((e : Misfit) → W tape e → ⊥) → (AfterParts L (λ l r. ⊤) tape → ⊥) → ⊥
      covers_of [] sound able = sound (record { node = node; left = 0; kind = NoPart }) refl
      covers_of (p ∷ ps) sound able =
          sound (record { node = node; left = length (p ∷ ps); kind = OtherPart })
          (inr (
            (λ n h.
                sound (record { node = node; left = length (p ∷ ps); kind = NoEncoding })
                (inl (
                  n,
                  h,
                  inr (
                    (λ c.
                        (items_good n at).names.covers ps
                        (λ e m. sound e (inl (n, h, inl (c, m))))
                        (λ t. able
                        (made L (p ∷ ps) (Count n ∷ t.parts) t.rest t.list (list_made most Yes No kind n at t.parts t.list c t.encodes)
                        (ap (λ (i : Piece). i ∷ ps) h ∙ ap (λ (ys : Parts). Count n ∷ ys) t.are)))),
                    refl,
                  ),
                ))),
            refl,
          ))

      pub list_good : IsGood (list_where A aligned node most Yes No kind at)
      list_good = record {
        decodes = in_turn_of
            (all_units_sound (λ n to. (A n to).encoding) (λ xs ys. xs ++ ys) aligned node (λ n to. (a n to).decodes) most)
            (λ v to. cases_of (apart v.0) constant_of (invalid_sound kind node)) at;
        encodes = record {
          one = λ tape xs ys rest other k l p q.
              one_of tape xs ys rest other k l (list_told most Yes No kind at xs k p) (list_told most Yes No kind at ys l q);
          excludes = λ tape e m xs rest k p. excludes_of tape e m xs rest k (list_told most Yes No kind at xs k p);
          one_misfit = one_misfit_of;
        };
        names = record { covers = covers_of };
      }

    pub list_type : (most : ℕ) (Yes No : ℕ → Type 0) (kind : FaultKind) → ((n : ℕ) → Yes n → No n → ⊥)
        → IsType (list_where A aligned node most Yes No kind)
    list_type most Yes No kind apart = record {
      good = λ at. list_good most Yes No kind apart at;
      present = λ at. record {
        each = λ xs k p.
            let t = list_told most Yes No kind at xs k p in record { first = Count t.count; others = t.items; are = t.are; present = λ e. cc };
      };
    }
