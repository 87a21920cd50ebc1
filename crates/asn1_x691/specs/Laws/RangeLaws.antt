-- A constrained number does not exceed its range; distances and least numbers.
use Rattle.std.proofs.Common.{◌≡◌, ℕ, ◌+◌, ◌<◌, ◌≤◌, arith, Bool, true, false, List, length, sym, ◌∙◌, inl, inr, subst}
use Rattle.asn1_schema.specs.Laws.OneEncodingLaws.{only_constant}
use Rattle.asn1_x691.specs.declared.fault.FaultKind.TheVariants.{AboveMost}
use Rattle.asn1_x691.specs.Fields.{constrained, in_bits, minimal_up_to, width_to}
use Rattle.asn1_x691.specs.Laws.OneEncodingLaws.{inner}

pub same_distance : (least x y : ℕ) → least + x ≡ least + y → x ≡ y
same_distance least x y e = omega (arith, e)

pub not_below : (least n : ℕ) → least ≤ n → n < least → ⊥
not_below least n p q = omega (arith, p, q)

pub in_bits_within : (width most node d : ℕ) (k : List Bool) → (in_bits width most node).encodes d k → d ≤ most
in_bits_within width most node d k p =
    let g = only_constant _ _ p.value p.after AboveMost node p.rest p.second in
    let e : d ≡ p.value = p.is ∙ g.1 in
    subst (λ (n : ℕ). n ≤ most) (sym e) g.0

pub minimal_within : (count most node d : ℕ) (k : List Bool) → (minimal_up_to count most node).encodes d k → d ≤ most
minimal_within count most node d k p =
    let g = only_constant _ _ p.value p.after AboveMost node p.rest p.second in
    let e : d ≡ p.value = p.is ∙ g.1 in
    subst (λ (n : ℕ). n ≤ most) (sym e) g.0

pub constrained_within : (aligned : Bool) (range node at d : ℕ) (k : List Bool) → (constrained aligned range node at).encodes d k → d ≤ range
constrained_within false range node at d k p = in_bits_within (width_to range) range node d k p
constrained_within true range node at d k (inl p) = in_bits_within (width_to range) range node d k p.1
constrained_within true range node at d k (inr (q, inl p)) =
    let g = inner true node at (in_bits 8 range node) d k p.1 in
    in_bits_within 8 range node d g.0 g.1
constrained_within true range node at d k (inr (q, inr (r, inl p))) =
    let g = inner true node at (in_bits 16 range node) d k p.1 in
    in_bits_within 16 range node d g.0 g.1
constrained_within true range node at d k (inr (q, inr (r, inr p))) =
    let s = p.1 in
    let g = inner true node (at + length s.front) (minimal_up_to s.value range node) s.after s.rest s.second in
    subst (λ (n : ℕ). n ≤ range) (sym s.is) (minimal_within s.value range node s.after g.0 g.1)
