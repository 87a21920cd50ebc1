-- Laws of the items of a list after their number.
use Rattle.std.proofs.Common.{◌≡◌, ℕ, zero, suc, ◌+◌, ◌*◌, ◌/◌, ◌%◌, ◌<◌, ◌≤◌, nat_lt, inl, inr, Bool, true, false, List, [], ◌∷◌, ◌++◌, length, refl, sym, ◌∙◌, ap, subst, arith}
use Rattle.std.specs.Prelude.{◌≢◌, ◌⊎◌, ⊤}
use Rattle.std.proofs.lemmas.List.{append-nil}
use Rattle.std.proofs.lemmas.Bool.{cases_lt}
use Rattle.asn1_schema.specs.declared.misfit.MisfitKind.TheVariants.{NoPart, NoEncoding, OtherPart}
use Rattle.asn1_schema.specs.Pieces.{Piece, Absent, Count, Parts}
use Rattle.asn1_schema.specs.Encodings.{Encoding, constant, invalid, cases, anywhere, in_case}
use Rattle.asn1_schema.specs.TypeEncodings.{TypeEncoding, Misfit, AfterParts, nothing, both}
use Rattle.asn1_schema.specs.Laws.EncodingLaws.{invalid_sound}
use Rattle.asn1_schema.specs.Laws.OneEncodingLaws.{only_constant}
use Rattle.asn1_schema.specs.Laws.PositionLaws.{IsSoundEverywhere}
use Rattle.asn1_schema.specs.Laws.ByStructure.{cases_of, constant_of, invalid_of, in_turn_of}
use Rattle.asn1_schema.specs.Laws.WritingLaws.{IsGood, ArePresent, same_head, same_tail, not_empty, made}
use Rattle.asn1_schema.specs.Laws.TypeLaws.{IsGoodEverywhere, nothing_good, both_good}
use Rattle.asn1_schema.specs.Laws.HeaderLaws.{BeginsWith}
use Rattle.asn1_x691.specs.declared.fault.FaultKind.{FaultKind}
use Rattle.asn1_x691.specs.declared.fault.FaultKind.TheVariants.{Fragment, NotMinimal, Unsupported}
use Rattle.asn1_x691.specs.Fragments.{units_next, units, units_then, units_below, last_units, all_units}
use Rattle.asn1_x691.specs.Lists.{numbered_items, number_of_units, fragment_then, items_below, whole_fragments_then, items_in_fragments, IsCountable, ListMisfit, list_where}
use Rattle.asn1_x691.specs.Laws.FragmentLaws.{IsNext, is_next, units_next_sound, units_next_one, all_units_sound}
use Rattle.asn1_x691.specs.Laws.PieceLaws.{count_alike}

pub below_is : (n m : ℕ) → n < m → nat_lt n m ≡ true
below_is n m h = grind arith

pub above_is : (n m : ℕ) → m ≤ n → nat_lt n m ≡ false
above_is n m h = grind arith

abbrev pub pair : ℕ → Parts → ℕ × Parts
pair n xs = (n, xs)

pub same_pair : (m n : ℕ) (xs ys : Parts) → m ≡ n → xs ≡ ys → pair m xs ≡ pair n ys
same_pair m n xs ys e f = ap (λ (i : ℕ). pair i xs) e ∙ ap (pair n) f

module _ (A : ℕ → ℕ → TypeEncoding FaultKind) (aligned : Bool) (node : ℕ) where
  abbrev N : ℕ → Encoding FaultKind ℕ
  N = units_next aligned node

  abbrev U : ℕ → ℕ → Encoding FaultKind Parts
  U n at = (A n at).encoding

  abbrev J : Parts → Parts → Parts
  J xs ys = xs ++ ys

  -- ---- a number that is known

  -- after a number, it is the one that is known
  number_after : (m n : ℕ) (ts : Parts) (l : List Bool)
      → (cases {K = FaultKind} (m ≡ n) (constant []) (m ≢ n) (invalid Fragment node)).encodes ts l → (m ≡ n) × (ts ≡ []) × (l ≡ [])
  number_after m n ts l (inl p) = (p.0, p.1.0, p.1.1)
  number_after m n ts l (inr p) = absurd p.1

  pub number_told : (n at : ℕ) (xs : Parts) (k : List Bool) → (number_of_units A aligned node n at).encoding.encodes xs k
      → (xs ≡ []) × (N at).encodes n k
  number_told n at xs k p =
      let g = number_after p.value n p.after p.rest p.second in
      let e : k ≡ p.front = p.parts ∙ ap (λ (l : List Bool). p.front ++ l) g.2 ∙ append-nil p.front in
      (p.is ∙ g.1, subst (λ (l : List Bool). (N at).encodes n l) (sym e) (subst (λ (m : ℕ). (N at).encodes m p.front) g.0 p.first))

  pub number_made : (n at : ℕ) (k : List Bool) → (N at).encodes n k → (number_of_units A aligned node n at).encoding.encodes [] k
  number_made n at k p = record {
    value = n;
    after = [];
    front = k;
    rest = [];
    first = p;
    second = inl (refl, (refl, refl));
    is = refl;
    parts = sym (append-nil k);
  }

  pub number_good : (n : ℕ) → IsGoodEverywhere (number_of_units A aligned node n)
  number_good n at = record {
    decodes = in_turn_of (units_next_sound aligned node) (λ m to. cases_of (λ p q. q p) constant_of (invalid_sound Fragment node)) at;
    encodes = record {
      one = λ tape xs ys rest other k l p q s t.
          let a = number_told n at xs k p in
          let b = number_told n at ys l q in (
            a.0 ∙ sym b.0,
            sym (s ∙ ap (λ (zs : Parts). zs ++ rest) a.0) ∙ t ∙ ap (λ (zs : Parts). zs ++ other) b.0,
            (units_next_one aligned node at).one n k l a.1 b.1,
          );
      excludes = λ tape e m xs rest k p s. m.0 (record { list = k; encoded = (number_told n at xs k p).1 });
      one_misfit = λ tape e g m h. m.1 ∙ sym h.1;
    };
    names = record {
      covers = λ tape sound able.
          sound (record { node = node; left = length tape; kind = NoEncoding })
          ((λ can. able (made _ tape [] tape can.list (number_made n at can.list can.encoded) refl)), refl);
    };
  }

  -- ---- what is read is written so

  -- `n` items, the rest of whose bits R says
  fragment_made : (n at : ℕ) (R : ℕ → TypeEncoding FaultKind) (y zs : Parts) (k f g h : List Bool) → (N at).encodes n f
      → (U n (at + length f)).encodes y g → (R (at + length f + length g)).encoding.encodes zs h → k ≡ f ++ (g ++ h)
      → (fragment_then A aligned node n R at).encoding.encodes (y ++ zs) k
  fragment_made n at R y zs k f g h p q r e = record {
    value = [];
    after = y ++ zs;
    front = f;
    rest = g ++ h;
    first = number_made n at f p;
    second = record { value = y; after = zs; front = g; rest = h; first = q; second = r; is = refl; parts = refl };
    is = refl;
    parts = e;
  }

  -- the number of the items, in fragments of 65,536 and others
  pub record AreFragments (most at : ℕ) (v : ℕ × Parts) (k : List Bool) : Type 0 where
    pub whole : ℕ
    pub left : ℕ
    pub few : left < 65536
    pub fit : (whole < most) ⊎ ((whole ≡ most) × (left < 16384))
    pub is : v.0 ≡ 65536 * whole + left
    pub encodes : (whole_fragments_then A aligned node whole (items_below A aligned node (nat_lt left 16384) left) at).encoding.encodes v.1 k

  abbrev Below : ℕ → ℕ → TypeEncoding FaultKind
  Below n = items_below A aligned node (nat_lt n 16384) n

  same_list : (w v : ℕ × Parts) (P : Parts → Type 0) → v ≡ w → P w.1 → P v.1
  same_list w v P e p = subst P (sym (ap (λ (x : ℕ × Parts). x.1) e)) p

  last_made : (n at : ℕ) (f k : List Bool) (v : ℕ × Parts) (l : List Bool) → n < 16384 → (N at).encodes n f
      → (units U J aligned node n (at + length f)).encodes v k → l ≡ f ++ k
      → (Below n at).encoding.encodes v.1 l
  last_made n at f k v l few p q e =
      subst (λ (b : Bool). (items_below A aligned node b n at).encoding.encodes v.1 l) (sym (below_is n 16384 few))
      (same_list (n, q.value) v (λ xs. (fragment_then A aligned node n nothing at).encoding.encodes xs l) q.is
      (subst (λ (xs : Parts). (fragment_then A aligned node n nothing at).encoding.encodes xs l) (append-nil q.value)
      (fragment_made n at nothing q.value [] l f q.front q.rest p q.first (refl, q.second.1) (e ∙ ap (λ (m : List Bool). f ++ m) q.parts))))

  -- ---- what is read is a number of fragments

  last_told : (n at : ℕ) (f k : List Bool) (v : ℕ × Parts) (l : List Bool) → n < 16384 → (N at).encodes n f
      → (units U J aligned node n (at + length f)).encodes v k → l ≡ f ++ k → (v.0 < 16384) × (Below v.0 at).encoding.encodes v.1 l
  last_told n at f k v l few p q e =
      let c : n ≡ v.0 = sym (ap (λ (x : ℕ × Parts). x.0) q.is) in
      (omega (arith, c, few), subst (λ (m : ℕ). (Below m at).encoding.encodes v.1 l) c (last_made n at f k v l few p q e))

  below_each : (kind : FaultKind) (n at : ℕ) (f k : List Bool) (v : ℕ × Parts) (l : List Bool) → (N at).encodes n f
      → (in_case (n < 16384) (units U J aligned node n) (16384 ≤ n) (anywhere (invalid kind node)) (at + length f)).encodes v k
      → l ≡ f ++ k → (v.0 < 16384) × (Below v.0 at).encoding.encodes v.1 l
  below_each kind n at f k v l p (inl q) e = last_told n at f k v l q.0 p q.1 e
  below_each kind n at f k v l p (inr q) e = absurd q.1

  below_told : (kind : FaultKind) (at : ℕ) (v : ℕ × Parts) (l : List Bool) → (units_below U J aligned node kind at).encodes v l
      → (v.0 < 16384) × (Below v.0 at).encoding.encodes v.1 l
  below_told kind at v l p =
      subst (λ (w : ℕ × Parts). (w.0 < 16384) × (Below w.0 at).encoding.encodes w.1 l) (sym p.is)
      (below_each kind p.value at p.front p.rest p.after l p.first p.second p.parts)

  -- a fragment of fewer than 65,536 items, and the last ones
  middle_made : (n r at : ℕ) (y zs : Parts) (k f g h : List Bool) → IsNext n → 16384 ≤ n → n < 65536 → r < 16384 → (N at).encodes n f
      → (U n (at + length f)).encodes y g → (Below r (at + length f + length g)).encoding.encodes zs h → k ≡ f ++ (g ++ h)
      → (n + r < 65536) × (Below (n + r) at).encoding.encodes (y ++ zs) k
  middle_made n r at y zs k f g h (inl few) some most last p q t e = absurd (omega (arith, few, some))
  middle_made n r at y zs k f g h (inr (times, one, four, is)) some most last p q t e =
      let m : n ≡ 16384 * ((n + r) / 16384) = omega (arith, is, last) in
      let d : r ≡ (n + r) % 16384 = omega (arith, is, last) in
      let L : ℕ → ℕ → TypeEncoding FaultKind = λ i. fragment_then A aligned node i nothing in
      let u : (L r (at + length f + length g)).encoding.encodes zs h =
      subst (λ (b : Bool). (items_below A aligned node b r (at + length f + length g)).encoding.encodes zs h) (below_is r 16384 last) t in
      let w : (fragment_then A aligned node n (L r) at).encoding.encodes (y ++ zs) k =
      fragment_made n at (L r) y zs k f g h p q u e in (
        omega (arith, is, most, last),
        subst (λ (b : Bool). (items_below A aligned node b (n + r) at).encoding.encodes (y ++ zs) k)
            (sym (above_is (n + r) 16384 (omega (arith, some))))
            (subst (λ (i : ℕ). (fragment_then A aligned node i (L ((n + r) % 16384)) at).encoding.encodes (y ++ zs) k) m
            (subst (λ (i : ℕ). (fragment_then A aligned node n (L i) at).encoding.encodes (y ++ zs) k) d w)),
      )

  abbrev Whole : ℕ → ℕ → ℕ → TypeEncoding FaultKind
  Whole whole left = whole_fragments_then A aligned node whole (Below left)

  one_more : (more at : ℕ) (y : Parts) (v : ℕ × Parts) (k f g h : List Bool) → (N at).encodes 65536 f
      → (U 65536 (at + length f)).encodes y g → AreFragments more (at + length f + length g) v h → k ≡ f ++ (g ++ h)
      → AreFragments (suc more) at (65536 + v.0, y ++ v.1) k
  one_more more at y v k f g h p q t e = record {
    whole = suc t.whole;
    left = t.left;
    few = t.few;
    fit = elim t.fit [ inl w ↦ inl (omega (arith, w)) | inr w ↦ inr (ap suc w.0, w.1) ];
    is = let i = t.is in omega (arith, i);
    encodes = fragment_made 65536 at (Whole t.whole t.left) y v.1 k f g h p q t.encodes e;
  }

  each_told : (more n at : ℕ) (f k : List Bool) (v : ℕ × Parts) (l : List Bool) → IsNext n → (N at).encodes n f
      → ((to : ℕ) (w : ℕ × Parts) (m : List Bool) → (all_units U J aligned node more to).encodes w m → AreFragments more to w m)
      → (in_case (n < 16384) (units U J aligned node n) (16384 ≤ n)
      (in_case (n < 65536) (units_then U J aligned node n (last_units U J aligned node)) (65536 ≤ n)
      (units_then U J aligned node n (all_units U J aligned node more))) (at + length f)).encodes v k
      → l ≡ f ++ k → AreFragments (suc more) at v l
  each_told more n at f k v l next p rec (inl q) e =
      let t = last_told n at f k v l q.0 p q.1 e in record {
        whole = 0;
        left = v.0;
        few = let u = t.0 in omega (arith, u);
        fit = inl (omega arith);
        is = omega arith;
        encodes = t.1;
      }
  each_told more n at f k v l next p rec (inr (some, inl (few, q))) e =
      let u = below_told NotMinimal (at + length f + length q.front) q.after q.rest q.second in
      let t = middle_made n q.after.0 at q.value q.after.1 l f q.front q.rest next some few u.0 p q.first u.1
      (e ∙ ap (λ (m : List Bool). f ++ m) q.parts) in
      subst (λ (w : ℕ × Parts). AreFragments (suc more) at w l) (sym q.is) (record {
        whole = 0;
        left = n + q.after.0;
        few = t.0;
        fit = inl (omega arith);
        is = omega arith;
        encodes = t.1;
      })
  each_told more n at f k v l next p rec (inr (some, inr (large, q))) e =
      let t = rec (at + length f + length q.front) q.after q.rest q.second in
      let is : n ≡ 65536 = elim next [ inl few ↦ absurd (omega (arith, few, some)) | inr w ↦ let a = w.2 in let b = w.3 in omega (arith, a, b, large) ] in
      subst (λ (w : ℕ × Parts). AreFragments (suc more) at w l) (sym q.is)
      (subst (λ (i : ℕ). AreFragments (suc more) at (i + q.after.0, q.value ++ q.after.1) l) (sym is)
      (one_more more at q.value q.after l f q.front q.rest (subst (λ (i : ℕ). (N at).encodes i f) is p)
      (subst (λ (i : ℕ). (U i (at + length f)).encodes q.value q.front) is q.first) t (e ∙ ap (λ (m : List Bool). f ++ m) q.parts)))

  pub told : (most at : ℕ) (v : ℕ × Parts) (l : List Bool) → (numbered_items A aligned node most at).encodes v l → AreFragments most at v l
  told zero at v l p =
      let t = below_told Unsupported at v l p in
      let few = t.0 in
      record { whole = 0; left = v.0; few = omega (arith, few); fit = inr (refl, few); is = omega arith; encodes = t.1 }
  told (suc more) at v l p =
      subst (λ (w : ℕ × Parts). AreFragments (suc more) at w l) (sym p.is)
      (each_told more p.value at p.front p.rest p.after l (is_next aligned node at p.value p.front p.first) p.first (told more) p.second
      p.parts)
