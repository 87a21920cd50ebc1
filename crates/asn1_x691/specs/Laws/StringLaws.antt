-- Laws of strings and bits as types have them.
use Rattle.std.proofs.Common.{◌≡◌, ℕ, suc, ◌+◌, ◌*◌, ◌<◌, ◌≤◌, subst, inl, inr, Bool, List, [], ◌∷◌, ◌++◌, length, append-nil, sym, ◌∙◌, ap, arith}
use Rattle.asn1_schema.specs.declared.tables.Length.{Length}
use Rattle.asn1_schema.specs.declared.tables.Length.TheVariants.{AtLeast, Between}
use Rattle.asn1_schema.specs.Encodings.{EncodesOne, constant, anywhere}
use Rattle.asn1_schema.specs.Fields.{raw_bits}
use Rattle.asn1_schema.specs.Laws.EncodingLaws.{IsSound, invalid_sound}
use Rattle.asn1_schema.specs.Laws.PositionLaws.{IsSoundEverywhere}
use Rattle.asn1_schema.specs.Laws.ByStructure.{then_of, cases_of, constant_of, in_turn_of, in_case_of}
use Rattle.asn1_schema.specs.Laws.FieldLaws.{raw_bits_sound, raw_bits_encode_one}
use Rattle.asn1_schema.specs.Laws.OneEncodingLaws.{then_encodes_one, in_turn_encodes_one, in_case_encodes_one, only_constant, constant_if_encodes_one}
use Rattle.asn1_x691.specs.declared.fault.FaultKind.{FaultKind}
use Rattle.asn1_x691.specs.declared.fault.FaultKind.TheVariants.{Short, BelowLeast, InRoot}
use Rattle.asn1_x691.specs.Fields.{on_octet, constrained}
use Rattle.asn1_x691.specs.Fragments.{string}
use Rattle.asn1_x691.specs.Strings.{first_of, bit, IsInline, IsOnOctet, units_of, sized_string, where_size, string_where, string_of, IsOfRoot, IsAddedSize, AreAdded, added_string}
use Rattle.asn1_x691.specs.Laws.FieldLaws.{on_octet_sound, constrained_sound}
use Rattle.asn1_x691.specs.Laws.OneEncodingLaws.{on_octet_one, inner, constrained_one}
use Rattle.asn1_x691.specs.Laws.RangeLaws.{constrained_within, same_distance, not_below}
use Rattle.asn1_x691.specs.Laws.FragmentLaws.{string_sound, string_one, all_held}

-- ---- one bit

pub bit_sound : (node : ℕ) → IsSound (bit node)
bit_sound node = then_of (raw_bits_sound 1 Short node) (λ bits. constant_of)

same_bits : (x y : List Bool) → length x ≡ 1 → length y ≡ 1 → first_of x ≡ first_of y → x ≡ y
same_bits [] y p q e = let z : 0 ≡ 1 = p in absurd (omega (arith, z))
same_bits (a ∷ b ∷ x) y p q e = let z : suc (suc (length x)) ≡ 1 = p in absurd (omega (arith, z))
same_bits (a ∷ []) [] p q e = let z : 0 ≡ 1 = q in absurd (omega (arith, z))
same_bits (a ∷ []) (c ∷ d ∷ y) p q e = let z : suc (suc (length y)) ≡ 1 = q in absurd (omega (arith, z))
same_bits (a ∷ []) (c ∷ []) p q e = ap (λ (b : Bool). b ∷ []) e

pub bit_one : (node : ℕ) → EncodesOne (bit node).encodes
bit_one node =
    then_encodes_one (raw_bits 1 Short node) (λ bits b. b) (λ bits. constant (first_of bits)) (raw_bits_encode_one 1 Short node)
    (λ bits. record { one = λ u k l p q. p.1 ∙ sym q.1 })
    (λ x y u v i j k l p q r s e.
    let lx : length x ≡ 1 = ap length p.1 ∙ p.0 in
    let ly : length y ≡ 1 = ap length q.1 ∙ q.0 in
    (same_bits x y lx ly (sym r.0 ∙ e ∙ s.0), e))

front_alone : (a b : List Bool) → b ≡ [] → length (a ++ b) ≡ length a
front_alone a b e = ap (λ (c : List Bool). length (a ++ c)) e ∙ ap length (append-nil a)

pub bit_size : (node : ℕ) (b : Bool) (list : List Bool) → (bit node).encodes b list → length list ≡ 1
bit_size node b list p = ap length p.parts ∙ front_alone p.front p.rest p.second.1 ∙ p.first.0

-- ---- a number of units

inline_or_not : (unit least range n : ℕ) → IsInline unit least range n → IsOnOctet unit least range n → ⊥
inline_or_not unit least range n (inl p) q = omega (arith, p, q.0)
inline_or_not unit least range n (inr p) (some, inl q) = omega (arith, p.0, q)
inline_or_not unit least range n (inr p) (some, inr q) = omega (arith, p.1, q)

units_of_sound : (aligned : Bool) (unit least range node n : ℕ) → IsSoundEverywhere (units_of aligned unit least range node n)
units_of_sound aligned unit least range node n =
    in_case_of (inline_or_not unit least range n) (λ at. raw_bits_sound (unit * n) Short node)
    (on_octet_sound aligned node _ (raw_bits_sound (unit * n) Short node))

units_of_one : (aligned : Bool) (unit least range node n at : ℕ) → EncodesOne (units_of aligned unit least range node n at).encodes
units_of_one aligned unit least range node n =
    in_case_encodes_one (IsInline unit least range n) (IsOnOctet unit least range n) (anywhere (raw_bits (unit * n) Short node))
    (on_octet aligned node (raw_bits (unit * n) Short node)) (inline_or_not unit least range n)
    (λ at. raw_bits_encode_one (unit * n) Short node)
    (on_octet_one aligned node (raw_bits (unit * n) Short node) (raw_bits_encode_one (unit * n) Short node))

units_size : (aligned : Bool) (unit least range node n at : ℕ) (x k : List Bool) → (units_of aligned unit least range node n at).encodes x k
    → length x ≡ unit * n
units_size aligned unit least range node n at x k (inl p) = ap length p.1.1 ∙ p.1.0
units_size aligned unit least range node n at x k (inr p) =
    let q = inner aligned node at (raw_bits (unit * n) Short node) x k p.1 in
    ap length q.1.1 ∙ q.1.0

pub sizes_apart : (size : Length) (n : ℕ) → IsAddedSize size n → IsOfRoot size n → ⊥
sizes_apart (AtLeast least) n p q = omega (arith, p, q)
sizes_apart (Between least range) n (inl p) q = omega (arith, p, q.0)
sizes_apart (Between least range) n (inr p) q = omega (arith, p, q.1)

-- ---- strings, where units have bits: bits are those of one number of units

module _ (most : ℕ) (aligned : Bool) (unit node : ℕ) (apart : (m n : ℕ) → unit * m ≡ unit * n → m ≡ n) where
  pub sized_string_sound : (least range : ℕ) → IsSoundEverywhere (sized_string aligned unit least range node)
  sized_string_sound least range =
      in_turn_of (constrained_sound aligned range node) (λ d. units_of_sound aligned unit least range node (least + d))

  pub sized_string_one : (least range at : ℕ) → EncodesOne (sized_string aligned unit least range node at).encodes
  sized_string_one least range =
      in_turn_encodes_one (constrained aligned range node) (λ d bits. bits) (λ d. units_of aligned unit least range node (least + d))
      (constrained_one aligned range node) (λ d. units_of_one aligned unit least range node (least + d))
      (λ x y u v at m n i j k l p q r s e. (
        same_distance least x y
            (apart (least + x) (least + y)
            (sym (units_size aligned unit least range node (least + x) m u k r) ∙ ap length e
            ∙ units_size aligned unit least range node (least + y) n v l s)),
        e,
      ))

  pub string_where_sound : (Yes No : ℕ → Type 0) (kind : FaultKind) → ((n : ℕ) → Yes n → No n → ⊥)
      → IsSoundEverywhere (string_where most aligned unit Yes No kind node)
  string_where_sound Yes No kind not_both =
      in_turn_of (string_sound most aligned unit node) (λ v at. cases_of (not_both v.0) constant_of (invalid_sound kind node))

  same_units : (x y : ℕ × List Bool) → length x.1 ≡ unit * x.0 → length y.1 ≡ unit * y.0 → x.1 ≡ y.1 → x ≡ y
  same_units x y p q e =
      let count : x.0 ≡ y.0 = apart x.0 y.0 (sym p ∙ ap length e ∙ q) in
      ap (λ (c : ℕ). (c, x.1)) count ∙ ap (λ (b : List Bool). (y.0, b)) e

  pub string_where_one : (Yes No : ℕ → Type 0) (kind : FaultKind) (at : ℕ)
      → EncodesOne (string_where most aligned unit Yes No kind node at).encodes
  string_where_one Yes No kind =
      in_turn_encodes_one (string most aligned unit node) (λ v bits. bits) (λ v. where_size Yes No kind node v)
      (string_one most aligned unit node) (λ v at. constant_if_encodes_one _ _ v.1 kind node)
      (λ x y u v at m n i j k l p q r s e.
      let a = (only_constant _ _ x.1 u kind node k r).1 in
      let b = (only_constant _ _ y.1 v kind node l s).1 in (
        same_units x y (all_held aligned unit node most at x i p).size (all_held aligned unit node most at y j q).size
            (sym a ∙ e ∙ b),
        e,
      ))

  pub string_of_sound : (length : Length) → IsSoundEverywhere (string_of most aligned unit length node)
  string_of_sound (AtLeast least) = string_where_sound (λ n. least ≤ n) (λ n. n < least) BelowLeast (not_below least)
  string_of_sound (Between least range) = sized_string_sound least range

  pub string_of_one : (length : Length) (at : ℕ) → EncodesOne (string_of most aligned unit length node at).encodes
  string_of_one (AtLeast least) = string_where_one (λ n. least ≤ n) (λ n. n < least) BelowLeast
  string_of_one (Between least range) = sized_string_one least range

  -- ---- sizes with an extension marker

  -- a string has as many units as its size permits
  string_size : (Yes No : ℕ → Type 0) (kind : FaultKind) (at : ℕ) (x k : List Bool)
      → (string_where most aligned unit Yes No kind node at).encodes x k → (n : ℕ) × (length x ≡ unit * n) × Yes n
  string_size Yes No kind at x k p =
      let g = only_constant _ _ p.value.1 p.after kind node p.rest p.second in
      let held = all_held aligned unit node most at p.value p.front p.first in
      (p.value.0, ap length (p.is ∙ g.1) ∙ held.size, g.0)

  string_of_size : (size : Length) (at : ℕ) (x k : List Bool) → (string_of most aligned unit size node at).encodes x k
      → (n : ℕ) × (length x ≡ unit * n) × IsOfRoot size n
  string_of_size (AtLeast least) at x k p = string_size (λ n. least ≤ n) (λ n. n < least) BelowLeast at x k p
  string_of_size (Between least range) at x k p =
      let few = constrained_within aligned range node at p.value p.front p.first in (
        least + p.value,
        ap length p.is ∙ units_size aligned unit least range node (least + p.value) (at + length p.front) p.after p.rest p.second,
        (omega arith, omega (arith, few)),
      )

  pub string_is_not_added : (size : Length) (at : ℕ) (x k : List Bool) → (string_of most aligned unit size node at).encodes x k
      → AreAdded unit size x → ⊥
  string_is_not_added size at x k p q =
      let r = string_of_size size at x k p in
      let e : q.0 ≡ r.0 = apart q.0 r.0 (sym q.1 ∙ r.1) in
      sizes_apart size r.0 (subst (λ (n : ℕ). IsAddedSize size n) e q.2) r.2

  pub added_string_sound : (size : Length) → IsSoundEverywhere (added_string most aligned unit size node)
  added_string_sound size = string_where_sound (IsAddedSize size) (IsOfRoot size) InRoot (sizes_apart size)

  pub added_string_one : (size : Length) (at : ℕ) → EncodesOne (added_string most aligned unit size node at).encodes
  added_string_one size = string_where_one (IsAddedSize size) (IsOfRoot size) InRoot

  pub added_string_is_added : (size : Length) (at : ℕ) (x k : List Bool) → (added_string most aligned unit size node at).encodes x k
      → AreAdded unit size x
  added_string_is_added size at x k p = string_size (IsAddedSize size) (IsOfRoot size) InRoot at x k p
