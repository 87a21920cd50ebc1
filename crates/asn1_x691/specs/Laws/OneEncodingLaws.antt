-- Laws of fields: a value has one encoding at a position.
use Rattle.std.proofs.Common.{◌≡◌, ◌≢◌, ℕ, zero, suc, ◌+◌, ◌-◌, ◌*◌, ◌^◌, ◌<◌, ◌≤◌, inl, inr, List, Bool, true, false, refl, sym, ◌∙◌, ap, subst, arith}
use Rattle.std.specs.Prelude.{◌⊎◌}
use Rattle.std.proofs.Math.Pow.{pow_mono}
use Rattle.asn1_schema.specs.Encodings.{Encoding, EncodesOne, constant, invalid, then, cases, number, anywhere, in_case}
use Rattle.asn1_schema.specs.Laws.FieldLaws.{number_encodes_one}
use Rattle.asn1_schema.specs.Laws.OneEncodingLaws.{then_encodes_one, in_turn_encodes_one, only_constant, constant_if_encodes_one, in_case_encodes_one}
use Rattle.asn1_x691.specs.declared.fault.FaultKind.{FaultKind}
use Rattle.asn1_x691.specs.declared.fault.FaultKind.TheVariants.{Short, AboveMost, NotMinimal, Fragment, NotZero}
use Rattle.asn1_x691.specs.Fields.{zeros, to_octet, on_octet, width_to, up_to, in_bits, octets_needed, minimal_octets, minimal_up_to, octet_count, indefinite, constrained, long_enough, length_after, length_octets, length_of, distance_from_one, above_64, large_length, small_length}

-- ---- bit-fields

zeros_one : (count node : ℕ) → EncodesOne (zeros count node).encodes
zeros_one count node =
    then_encodes_one (number count Short node) (λ n u. u) (λ n. cases (n ≡ 0) (constant tt) (0 < n) (invalid NotZero node))
    (number_encodes_one count Short node) (λ n. constant_if_encodes_one (n ≡ 0) (0 < n) tt NotZero node)
    (λ x y u v i j k l p q r s e.
    ((only_constant (x ≡ 0) (0 < x) tt u NotZero node k r).0 ∙ sym (only_constant (y ≡ 0) (0 < y) tt v NotZero node l s).0, refl))

pub on_octet_one : {X : Type 0} (aligned : Bool) (node : ℕ) (A : Encoding FaultKind X) → EncodesOne A.encodes → (at : ℕ)
    → EncodesOne (on_octet aligned node A at).encodes
on_octet_one false node A a at = a
on_octet_one true node A a at =
    then_encodes_one (zeros (to_octet at) node) (λ u x. x) (λ u. A) (zeros_one (to_octet at) node) (λ u. a)
    (λ x y u v i j k l p q r s e. (refl, e))

-- the field after the zeros
pub inner : {X : Type 0} (aligned : Bool) (node at : ℕ) (A : Encoding FaultKind X) (x : X) (k : List Bool)
    → (on_octet aligned node A at).encodes x k → (l : List Bool) × A.encodes x l
inner false node at A x k p = (k, p)
inner true node at A x k p = (p.rest, subst (λ (y : _). A.encodes y p.rest) (sym p.is) p.second)

-- ---- whole numbers

pub in_bits_one : (width most node : ℕ) → EncodesOne (in_bits width most node).encodes
in_bits_one width most node =
    then_encodes_one (number width Short node) (λ d n. n) (λ d. up_to most node d) (number_encodes_one width Short node)
    (λ d. constant_if_encodes_one (d ≤ most) (most < d) d AboveMost node)
    (λ x y u v i j k l p q r s e.
    (sym (only_constant _ _ x u AboveMost node k r).1 ∙ e ∙ (only_constant _ _ y v AboveMost node l s).1, e))

pub minimal_octets_one : (count node : ℕ) → EncodesOne (minimal_octets count node).encodes
minimal_octets_one count node =
    then_encodes_one (number (8 * count) Short node) (λ d n. n)
    (λ d. cases ((count ≤ 1) ⊎ (2 ^ (8 * (count - 1)) ≤ d)) (constant d) ((1 < count) × (d < 2 ^ (8 * (count - 1)))) (invalid NotMinimal node))
    (number_encodes_one (8 * count) Short node) (λ d. constant_if_encodes_one _ _ d NotMinimal node)
    (λ x y u v i j k l p q r s e.
    (sym (only_constant _ _ x u NotMinimal node k r).1 ∙ e ∙ (only_constant _ _ y v NotMinimal node l s).1, e))

minimal_up_to_one : (count most node : ℕ) → EncodesOne (minimal_up_to count most node).encodes
minimal_up_to_one count most node =
    then_encodes_one (minimal_octets count node) (λ d n. n) (λ d. up_to most node d) (minimal_octets_one count node)
    (λ d. constant_if_encodes_one _ _ d AboveMost node)
    (λ x y u v i j k l p q r s e.
    (sym (only_constant _ _ x u AboveMost node k r).1 ∙ e ∙ (only_constant _ _ y v AboveMost node l s).1, e))

octet_count_one : (most node : ℕ) → EncodesOne (octet_count most node).encodes
octet_count_one most node =
    then_encodes_one (in_bits (width_to (most - 1)) (most - 1) node) (λ d n. n) (λ d. constant (d + 1))
    (in_bits_one (width_to (most - 1)) (most - 1) node) (λ d. record { one = λ u k l p q. p.1 ∙ sym q.1 })
    (λ x y u v i j k l p q r s e.
    let m : u ≡ x + 1 = r.0 in
    let n : v ≡ y + 1 = s.0 in
    (omega (arith, m, n, e), e))

-- ---- the minimal number of octets

not_fewer : (m n d low high : ℕ) → 0 < m → m < n → d < low → (8 * m ≤ 8 * (n - 1) → low ≤ high) → (n ≤ 1) ⊎ (high ≤ d) → ⊥
not_fewer m n d low high some lt below mono (inl p) = omega (arith, some, lt, p)
not_fewer m n d low high some lt below mono (inr p) =
    let many : 8 * m ≤ 8 * (n - 1) = omega (arith, lt) in
    let step = mono many in
    omega (arith, below, step, p)

pub same_count : (m n : ℕ) → (m < n → ⊥) → (n < m → ⊥) → m ≡ n
same_count zero zero p q = refl
same_count zero (suc n) p q = absurd (p (omega arith))
same_count (suc m) zero p q = absurd (q (omega arith))
same_count (suc m) (suc n) p q = ap suc (same_count m n (λ r. p (omega (arith, r))) (λ r. q (omega (arith, r))))

-- `count` octets hold the number, and no fewer do
pub record IsMinimal (count d : ℕ) : Type 0 where
  pub below : d < 2 ^ (8 * count)
  pub fewest : (count ≤ 1) ⊎ (2 ^ (8 * (count - 1)) ≤ d)

minimal : (count most node u : ℕ) (k : List Bool) → (minimal_up_to count most node).encodes u k → IsMinimal count u
minimal count most node u k p =
    let g = only_constant _ _ p.value p.after AboveMost node p.rest p.second in
    let h = only_constant _ _ p.first.value p.first.after NotMinimal node p.first.rest p.first.second in
    let same : p.first.value ≡ u = sym (p.is ∙ g.1 ∙ p.first.is ∙ h.1) in
    subst (λ (d : ℕ). IsMinimal count d) same (record { below = p.first.first.0; fewest = h.0 })

pub same_octets : (m n u v : ℕ) → 0 < m → 0 < n → IsMinimal m u → IsMinimal n v → u ≡ v → m ≡ n
same_octets m n u v some more p q e =
    let r : IsMinimal m v = subst (λ (d : ℕ). IsMinimal m d) e p in
    same_count m n
    (λ lt. not_fewer m n v (2 ^ (8 * m)) (2 ^ (8 * (n - 1))) some lt r.below (λ le. pow_mono le) q.fewest)
    (λ lt. not_fewer n m v (2 ^ (8 * n)) (2 ^ (8 * (m - 1))) more lt q.below (λ le. pow_mono le) r.fewest)

from_one : (most node n : ℕ) (i : List Bool) → (octet_count most node).encodes n i → 0 < n
from_one most node n i p =
    let e : n ≡ p.value + 1 = p.is ∙ p.second.0 in
    omega (arith, e)

indefinite_one : (range node at : ℕ) → EncodesOne (indefinite range node at).encodes
indefinite_one range node =
    let many = octets_needed (width_to range) in
    in_turn_encodes_one (anywhere (octet_count many node)) (λ count n. n) (λ count. on_octet true node (minimal_up_to count range node))
    (λ at. octet_count_one many node)
    (λ count. on_octet_one true node (minimal_up_to count range node) (minimal_up_to_one count range node))
    (λ x y u v at m n i j k l p q r s e.
    let a = inner true node m (minimal_up_to x range node) u k r in
    let b = inner true node n (minimal_up_to y range node) v l s in (
      same_octets x y u v (from_one many node x i p) (from_one many node y j q) (minimal x range node u a.0 a.1)
          (minimal y range node v b.0 b.1) e,
      e,
    ))

pub constrained_one : (aligned : Bool) (range node at : ℕ) → EncodesOne (constrained aligned range node at).encodes
constrained_one false range node at = in_bits_one (width_to range) range node
constrained_one true range node at =
    let T = on_octet true node (in_bits 16 range node) in
    let O = on_octet true node (in_bits 8 range node) in
    let L : ℕ → Encoding FaultKind ℕ = in_case (range < 65536) T (65536 ≤ range) (indefinite range node) in
    let M : ℕ → Encoding FaultKind ℕ = in_case (range ≡ 255) O (range ≢ 255) L in
    in_case_encodes_one (range < 255) (255 ≤ range) (anywhere (in_bits (width_to range) range node)) M (λ a b. omega (arith, a, b))
    (λ n. in_bits_one (width_to range) range node)
    (in_case_encodes_one (range ≡ 255) (range ≢ 255) O L (λ a b. b a) (on_octet_one true node (in_bits 8 range node) (in_bits_one 8 range node))
    (in_case_encodes_one (range < 65536) (65536 ≤ range) T (indefinite range node) (λ a b. omega (arith, a, b))
    (on_octet_one true node (in_bits 16 range node) (in_bits_one 16 range node)) (indefinite_one range node))) at

-- ---- lengths

-- a length tells its first octet
pub record IsLong (first n : ℕ) : Type 0 where
  pub second : ℕ
  pub octet : second < 256
  pub is : n ≡ 256 * (first - 128) + second
  pub long : 128 ≤ n
  pub two : 128 ≤ first

pub long_of : (node first n second : ℕ) (k : List Bool) → 128 ≤ first → second < 256
    → (long_enough node (256 * (first - 128) + second)).encodes n k → IsLong first n
long_of node first n second k two octet p =
    let g = only_constant _ _ (256 * (first - 128) + second) n NotMinimal node k p in
    record { second = second; octet = octet; is = g.1; long = subst (λ (m : ℕ). 128 ≤ m) (sym g.1) g.0; two = two }

length_is : (node first n : ℕ) (k : List Bool) → (length_after node first).encodes n k → ((first < 128) × (n ≡ first)) ⊎ IsLong first n
length_is node first n k (inl p) = inl (p.0, p.1.0)
length_is node first n k (inr (two, inl p)) =
    let q = p.1 in
    let o : q.value < 256 = q.first.0 in
    inr (subst (λ (m : ℕ). IsLong first m) (sym q.is) (long_of node first q.after q.value q.rest two o q.second))
length_is node first n k (inr (two, inr p)) = absurd p.1

same_first : (x y u v : ℕ) → ((x < 128) × (u ≡ x)) ⊎ IsLong x u → ((y < 128) × (v ≡ y)) ⊎ IsLong y v → u ≡ v → x ≡ y
same_first x y u v (inl p) (inl q) e = sym p.1 ∙ e ∙ q.1
same_first x y u v (inl p) (inr q) e = absurd (omega (arith, p.0, p.1, q.long, e))
same_first x y u v (inr p) (inl q) e = absurd (omega (arith, q.0, q.1, p.long, e))
same_first x y u v (inr p) (inr q) e = omega (arith, p.is, p.octet, p.two, q.is, q.octet, q.two, e)

abbrev pub Two : ℕ → ℕ → Encoding FaultKind ℕ
Two node first = then (number 8 Short node) (λ second n. n) (λ second. long_enough node (256 * (first - 128) + second))

pub two_octets_one : (node first : ℕ) → EncodesOne (Two node first).encodes
two_octets_one node first =
    then_encodes_one (number 8 Short node) (λ second n. n) (λ second. long_enough node (256 * (first - 128) + second))
    (number_encodes_one 8 Short node) (λ second. constant_if_encodes_one _ _ (256 * (first - 128) + second) NotMinimal node)
    (λ x y u v i j k l p q r s e.
    let a : u ≡ 256 * (first - 128) + x = (only_constant _ _ (256 * (first - 128) + x) u NotMinimal node k r).1 in
    let b : v ≡ 256 * (first - 128) + y = (only_constant _ _ (256 * (first - 128) + y) v NotMinimal node l s).1 in
    (omega (arith, a, b, e), e))

length_after_one : (node first : ℕ) → EncodesOne (length_after node first).encodes
length_after_one node first =
    let F : Encoding FaultKind ℕ = invalid Fragment node in
    in_case_encodes_one (first < 128) (128 ≤ first) (anywhere (constant first)) (in_case (first < 192) (anywhere (Two node first)) (192 ≤ first) (anywhere F))
    (λ a b. omega (arith, a, b)) (λ at. record { one = λ u k l p q. p.1 ∙ sym q.1 })
    (in_case_encodes_one (first < 192) (192 ≤ first) (anywhere (Two node first)) (anywhere F) (λ a b. omega (arith, a, b))
    (λ at. two_octets_one node first) (λ at. record { one = λ u k l p q. absurd p })) 0

length_octets_one : (node : ℕ) → EncodesOne (length_octets node).encodes
length_octets_one node =
    then_encodes_one (number 8 Short node) (λ first n. n) (λ first. length_after node first) (number_encodes_one 8 Short node)
    (λ first. length_after_one node first)
    (λ x y u v i j k l p q r s e. (same_first x y u v (length_is node x u k r) (length_is node y v l s) e, e))

pub length_one : (aligned : Bool) (node at : ℕ) → EncodesOne (length_of aligned node at).encodes
length_one aligned node = on_octet_one aligned node (length_octets node) (length_octets_one node)

-- ---- normally small lengths

distance_from_one_one : (node : ℕ) → EncodesOne (distance_from_one node).encodes
distance_from_one_one node =
    then_encodes_one (number 6 Short node) (λ d n. n) (λ d. constant (d + 1)) (number_encodes_one 6 Short node)
    (λ d. record { one = λ u k l p q. p.1 ∙ sym q.1 })
    (λ x y u v i j k l p q r s e.
    let m : u ≡ x + 1 = r.0 in
    let n : v ≡ y + 1 = s.0 in
    (omega (arith, m, n, e), e))

large_length_one : (aligned : Bool) (node at : ℕ) → EncodesOne (large_length aligned node at).encodes
large_length_one aligned node =
    in_turn_encodes_one (length_of aligned node) (λ n m. m) (λ n. anywhere (above_64 node n)) (length_one aligned node)
    (λ n at. constant_if_encodes_one (64 < n) (n ≤ 64) n NotMinimal node)
    (λ x y u v at m n i j k l p q r s e.
    (sym (only_constant _ _ x u NotMinimal node k r).1 ∙ e ∙ (only_constant _ _ y v NotMinimal node l s).1, e))

abbrev Small : Bool → ℕ → ℕ → ℕ → Encoding FaultKind ℕ
Small aligned node bit = in_case (bit ≡ 0) (anywhere (distance_from_one node)) (0 < bit) (large_length aligned node)

-- a length tells the bit before it
small_or_large : (aligned : Bool) (node bit at n : ℕ) (k : List Bool) → (Small aligned node bit at).encodes n k
    → ((bit ≡ 0) × (n ≤ 64)) ⊎ ((0 < bit) × (64 < n))
small_or_large aligned node bit at n k (inl p) =
    let q = p.1 in
    let few : q.value < 64 = q.first.0 in
    let e : n ≡ q.value + 1 = q.is ∙ q.second.0 in
    inl (p.0, omega (arith, few, e))
small_or_large aligned node bit at n k (inr p) =
    let q = p.1 in
    let g = only_constant (64 < q.value) (q.value ≤ 64) q.value q.after NotMinimal node q.rest q.second in
    let e : n ≡ q.value = q.is ∙ g.1 in
    inr (p.0, subst (λ (m : ℕ). 64 < m) (sym e) g.0)

same_bit : (x y u v : ℕ) → x < 2 → y < 2 → ((x ≡ 0) × (u ≤ 64)) ⊎ ((0 < x) × (64 < u)) → ((y ≡ 0) × (v ≤ 64)) ⊎ ((0 < y) × (64 < v))
    → u ≡ v → x ≡ y
same_bit x y u v a b (inl p) (inl q) e = p.0 ∙ sym q.0
same_bit x y u v a b (inl p) (inr q) e = absurd (omega (arith, p.1, q.1, e))
same_bit x y u v a b (inr p) (inl q) e = absurd (omega (arith, p.1, q.1, e))
same_bit x y u v a b (inr p) (inr q) e = omega (arith, a, b, p.0, q.0)

pub small_length_one : (aligned : Bool) (node at : ℕ) → EncodesOne (small_length aligned node at).encodes
small_length_one aligned node =
    in_turn_encodes_one (anywhere (number 1 Short node)) (λ bit n. n) (Small aligned node) (λ at. number_encodes_one 1 Short node)
    (λ bit. in_case_encodes_one (bit ≡ 0) (0 < bit) (anywhere (distance_from_one node)) (large_length aligned node)
    (λ a b. omega (arith, a, b)) (λ at. distance_from_one_one node) (large_length_one aligned node))
    (λ x y u v at m n i j k l p q r s e.
    (same_bit x y u v p.0 q.0 (small_or_large aligned node x m u k r) (small_or_large aligned node y n v l s) e, e))
