-- Laws of whole numbers without an upper bound: a number has one encoding at a position.
use Rattle.std.proofs.Common.{◌≡◌, ℕ, ℤ, pos, negsuc, suc, ◌-◌, ◌*◌, ◌^◌, ◌<◌, ◌≤◌, inl, inr, List, Bool, refl, sym, ◌∙◌, ap, subst, arith}
use Rattle.std.specs.Prelude.{◌⊎◌}
use Rattle.std.proofs.Math.Pow.{pow_mono}
use Rattle.std.proofs.Math.Nat.{pow-suc}
use Rattle.asn1_schema.specs.Encodings.{Encoding, EncodesOne, invalid, number, anywhere, in_turn, in_case}
use Rattle.asn1_schema.specs.Laws.FieldLaws.{number_encodes_one}
use Rattle.asn1_schema.specs.Laws.OneEncodingLaws.{then_encodes_one, in_turn_encodes_one, only_constant, constant_if_encodes_one, in_case_encodes_one}
use Rattle.asn1_x691.specs.declared.fault.FaultKind.{FaultKind}
use Rattle.asn1_x691.specs.declared.fault.FaultKind.TheVariants.{Short, NotMinimal}
use Rattle.asn1_x691.specs.Fields.{on_octet, minimal_octets, length_of, semi_constrained, at_least_64, large_number, small_number, with_sign, below_minus_one, signed_of, signed_octets, unconstrained}
use Rattle.asn1_x691.specs.Laws.OneEncodingLaws.{on_octet_one, inner, minimal_octets_one, same_count, IsMinimal, same_octets, length_one}

-- ---- from 0 on

-- a value in octets after their number
abbrev Counted : {X : Type 0} → Bool → ℕ → (ℕ → Encoding FaultKind X) → ℕ → ℕ → Encoding FaultKind X
Counted aligned node A count = in_case (0 < count) (on_octet aligned node (A count)) (count ≡ 0) (anywhere (invalid NotMinimal node))

counted : {X : Type 0} (aligned : Bool) (node at count : ℕ) (A : ℕ → Encoding FaultKind X) (x : X) (k : List Bool)
    → (Counted aligned node A count at).encodes x k → (0 < count) × ((l : List Bool) × (A count).encodes x l)
counted aligned node at count A x k (inl p) = (p.0, inner aligned node at (A count) x k p.1)
counted aligned node at count A x k (inr p) = absurd p.1

module _ {X : Type 0} (aligned : Bool) (node : ℕ) (A : ℕ → Encoding FaultKind X) (a : (count : ℕ) → EncodesOne (A count).encodes)
    (told : (m n : ℕ) (x : X) (k l : List Bool) → 0 < m → 0 < n → (A m).encodes x k → (A n).encodes x l → m ≡ n) where
  after_count_one : (at : ℕ) → EncodesOne (in_turn (length_of aligned node) (λ count x. x) (Counted aligned node A) at).encodes
  after_count_one =
      in_turn_encodes_one (length_of aligned node) (λ count x. x) (Counted aligned node A) (length_one aligned node)
      (λ count. in_case_encodes_one (0 < count) (count ≡ 0) (on_octet aligned node (A count)) (anywhere (invalid NotMinimal node))
      (λ a b. omega (arith, a, b)) (on_octet_one aligned node (A count) (a count)) (λ at. record { one = λ u k l p q. absurd p }))
      (λ x y u v at m n i j k l p q r s e.
      let c = counted aligned node m x A u k r in
      let d = counted aligned node n y A v l s in
      (told x y v c.1.0 d.1.0 c.0 d.0 (subst (λ (w : X). (A x).encodes w c.1.0) e c.1.1) d.1.1, e))

minimal_of : (count node u : ℕ) (k : List Bool) → (minimal_octets count node).encodes u k → IsMinimal count u
minimal_of count node u k p =
    let h = only_constant _ _ p.value p.after NotMinimal node p.rest p.second in
    subst (λ (d : ℕ). IsMinimal count d) (sym (p.is ∙ h.1)) (record { below = p.first.0; fewest = h.0 })

pub semi_constrained_one : (aligned : Bool) (node at : ℕ) → EncodesOne (semi_constrained aligned node at).encodes
semi_constrained_one aligned node =
    after_count_one aligned node (λ count. minimal_octets count node) (λ count. minimal_octets_one count node)
    (λ m n x k l some more p q. same_octets m n x x some more (minimal_of m node x k p) (minimal_of n node x l q) refl)

large_number_one : (aligned : Bool) (node at : ℕ) → EncodesOne (large_number aligned node at).encodes
large_number_one aligned node =
    in_turn_encodes_one (semi_constrained aligned node) (λ n m. m) (λ n. anywhere (at_least_64 node n)) (semi_constrained_one aligned node)
    (λ n at. constant_if_encodes_one (64 ≤ n) (n < 64) n NotMinimal node)
    (λ x y u v at m n i j k l p q r s e.
    (sym (only_constant _ _ x u NotMinimal node k r).1 ∙ e ∙ (only_constant _ _ y v NotMinimal node l s).1, e))

abbrev Small : Bool → ℕ → ℕ → ℕ → Encoding FaultKind ℕ
Small aligned node bit = in_case (bit ≡ 0) (anywhere (number 6 Short node)) (0 < bit) (large_number aligned node)

-- a number tells the bit before it
small_or_large : (aligned : Bool) (node bit at n : ℕ) (k : List Bool) → (Small aligned node bit at).encodes n k
    → ((bit ≡ 0) × (n < 64)) ⊎ ((0 < bit) × (64 ≤ n))
small_or_large aligned node bit at n k (inl p) = inl (p.0, p.1.0)
small_or_large aligned node bit at n k (inr p) =
    let q = p.1 in
    let g = only_constant (64 ≤ q.value) (q.value < 64) q.value q.after NotMinimal node q.rest q.second in
    inr (p.0, subst (λ (m : ℕ). 64 ≤ m) (sym (q.is ∙ g.1)) g.0)

same_bit : (x y u v : ℕ) → x < 2 → y < 2 → ((x ≡ 0) × (u < 64)) ⊎ ((0 < x) × (64 ≤ u)) → ((y ≡ 0) × (v < 64)) ⊎ ((0 < y) × (64 ≤ v))
    → u ≡ v → x ≡ y
same_bit x y u v a b (inl p) (inl q) e = p.0 ∙ sym q.0
same_bit x y u v a b (inl p) (inr q) e = absurd (omega (arith, p.1, q.1, e))
same_bit x y u v a b (inr p) (inl q) e = absurd (omega (arith, p.1, q.1, e))
same_bit x y u v a b (inr p) (inr q) e = omega (arith, a, b, p.0, q.0)

pub small_number_one : (aligned : Bool) (node at : ℕ) → EncodesOne (small_number aligned node at).encodes
small_number_one aligned node =
    in_turn_encodes_one (anywhere (number 1 Short node)) (λ bit n. n) (Small aligned node) (λ at. number_encodes_one 1 Short node)
    (λ bit. in_case_encodes_one (bit ≡ 0) (0 < bit) (anywhere (number 6 Short node)) (large_number aligned node)
    (λ a b. omega (arith, a, b)) (λ at. number_encodes_one 6 Short node) (large_number_one aligned node))
    (λ x y u v at m n i j k l p q r s e.
    (same_bit x y u v p.0 q.0 (small_or_large aligned node x m u k r) (small_or_large aligned node y n v l s) e, e))

-- ---- signed

-- z is u, or u below -1
abbrev IsOfSize : ℕ → ℤ → Type 0
IsOfSize u z = (z ≡ pos u) ⊎ (z ≡ negsuc u)

same_size : (u v : ℕ) (z : ℤ) → IsOfSize u z → IsOfSize v z → u ≡ v
same_size u v z (inl p) (inl q) = let e : pos u ≡ pos v = sym p ∙ q in cc
same_size u v z (inl p) (inr q) = let e : pos u ≡ negsuc v = sym p ∙ q in cc
same_size u v z (inr p) (inl q) = let e : negsuc u ≡ pos v = sym p ∙ q in cc
same_size u v z (inr p) (inr q) = let e : negsuc u ≡ negsuc v = sym p ∙ q in cc

-- `count` octets of two's complement hold a value of this size, and no fewer do
record IsSigned (count u : ℕ) : Type 0 where
  below : u < 2 ^ (8 * count - 1)
  fewest : (count ≤ 1) ⊎ (2 ^ (8 * count - 9) ≤ u)

not_fewer_signed : (m n u low high : ℕ) → 0 < m → m < n → u < low → (8 * m - 1 ≤ 8 * n - 9 → low ≤ high) → (n ≤ 1) ⊎ (high ≤ u) → ⊥
not_fewer_signed m n u low high some lt below mono (inl p) = omega (arith, some, lt, p)
not_fewer_signed m n u low high some lt below mono (inr p) =
    let many : 8 * m - 1 ≤ 8 * n - 9 = omega (arith, some, lt) in
    let step = mono many in
    omega (arith, below, step, p)

same_signed : (m n u : ℕ) → 0 < m → 0 < n → IsSigned m u → IsSigned n u → m ≡ n
same_signed m n u some more p q =
    same_count m n
    (λ lt. not_fewer_signed m n u (2 ^ (8 * m - 1)) (2 ^ (8 * n - 9)) some lt p.below (λ le. pow_mono le) q.fewest)
    (λ lt. not_fewer_signed n m u (2 ^ (8 * n - 1)) (2 ^ (8 * m - 9)) more lt q.below (λ le. pow_mono le) p.fewest)

half : (count : ℕ) → 0 < count → 2 ^ (8 * count) ≡ 2 ^ (8 * count - 1) * 2
half count some =
    let e : 8 * count ≡ suc (8 * count - 1) = omega (arith, some) in
    ap (λ (n : ℕ). 2 ^ n) e ∙ pow-suc 2 (8 * count - 1)

below_half : (all low d : ℕ) → all ≡ low * 2 → low ≤ d → d < all → all - 1 - d < low
below_half all low d e p q = omega (arith, e, p, q)

-- what is encoded tells its size
record Sized (count : ℕ) (z : ℤ) : Type 0 where
  u : ℕ
  is : IsOfSize u z
  signed : IsSigned count u

sized_of : (count node d : ℕ) (z : ℤ) (k : List Bool) → 0 < count → d < 2 ^ (8 * count) → (signed_of count node d).encodes z k
    → Sized count z
sized_of count node d z k some octets (inl p) =
    let g = only_constant _ _ (pos d) z NotMinimal node k p.1 in
    record { u = d; is = inl g.1; signed = record { below = p.0; fewest = g.0 } }
sized_of count node d z k some octets (inr p) =
    let g = only_constant _ _ (negsuc (below_minus_one count d)) z NotMinimal node k p.1 in
    record {
      u = below_minus_one count d;
      is = inr g.1;
      signed = record {
        below = below_half (2 ^ (8 * count)) (2 ^ (8 * count - 1)) d (half count some) p.0 octets;
        fewest = g.0;
      };
    }

sized : (count node : ℕ) (z : ℤ) (k : List Bool) → 0 < count → (signed_octets count node).encodes z k → Sized count z
sized count node z k some p =
    subst (λ (y : ℤ). Sized count y) (sym p.is) (sized_of count node p.value p.after p.rest some p.first.0 p.second)

-- the digits that a value has
same_digits : (count node x y : ℕ) (u v : ℤ) (k l : List Bool) → x < 2 ^ (8 * count) → y < 2 ^ (8 * count)
    → (signed_of count node x).encodes u k → (signed_of count node y).encodes v l → u ≡ v → x ≡ y
same_digits count node x y u v k l a b (inl p) (inl q) e =
    let f : pos x ≡ pos y =
    sym (only_constant _ _ (pos x) u NotMinimal node k p.1).1 ∙ e ∙ (only_constant _ _ (pos y) v NotMinimal node l q.1).1 in
    cc
same_digits count node x y u v k l a b (inl p) (inr q) e =
    let f : pos x ≡ negsuc (below_minus_one count y) =
    sym (only_constant _ _ (pos x) u NotMinimal node k p.1).1 ∙ e
    ∙ (only_constant _ _ (negsuc (below_minus_one count y)) v NotMinimal node l q.1).1 in
    cc
same_digits count node x y u v k l a b (inr p) (inl q) e =
    let f : negsuc (below_minus_one count x) ≡ pos y =
    sym (only_constant _ _ (negsuc (below_minus_one count x)) u NotMinimal node k p.1).1 ∙ e
    ∙ (only_constant _ _ (pos y) v NotMinimal node l q.1).1 in
    cc
same_digits count node x y u v k l a b (inr p) (inr q) e =
    let f : negsuc (below_minus_one count x) ≡ negsuc (below_minus_one count y) =
    sym (only_constant _ _ (negsuc (below_minus_one count x)) u NotMinimal node k p.1).1 ∙ e
    ∙ (only_constant _ _ (negsuc (below_minus_one count y)) v NotMinimal node l q.1).1 in
    let g : below_minus_one count x ≡ below_minus_one count y = cc in
    omega (arith, a, b, g)

with_sign_one : (count node u : ℕ) (z : ℤ) → EncodesOne (with_sign count node u z).encodes
with_sign_one count node u z = constant_if_encodes_one _ _ z NotMinimal node

signed_of_one : (count node d : ℕ) → EncodesOne (signed_of count node d).encodes
signed_of_one count node d =
    in_case_encodes_one (d < 2 ^ (8 * count - 1)) (2 ^ (8 * count - 1) ≤ d) (anywhere (with_sign count node d (pos d)))
    (anywhere (with_sign count node (below_minus_one count d) (negsuc (below_minus_one count d)))) (λ a b. omega (arith, a, b))
    (λ at. with_sign_one count node d (pos d)) (λ at. with_sign_one count node _ _) 0

signed_octets_one : (count node : ℕ) → EncodesOne (signed_octets count node).encodes
signed_octets_one count node =
    then_encodes_one (number (8 * count) Short node) (λ d z. z) (λ d. signed_of count node d) (number_encodes_one (8 * count) Short node)
    (λ d. signed_of_one count node d)
    (λ x y u v i j k l p q r s e. (same_digits count node x y u v k l p.0 q.0 r s e, e))

pub unconstrained_one : (aligned : Bool) (node at : ℕ) → EncodesOne (unconstrained aligned node at).encodes
unconstrained_one aligned node =
    after_count_one aligned node (λ count. signed_octets count node) (λ count. signed_octets_one count node)
    (λ m n z k l some more p q.
    let a = sized m node z k some p in
    let b = sized n node z l more q in
    same_signed m n a.u some more a.signed
    (subst (λ (u : ℕ). IsSigned n u) (same_size b.u a.u z b.is a.is) b.signed))
