-- The octets of a length.
use Rattle.std.proofs.Common.{◌≡◌, ◌≢◌, ℕ, zero, suc, ◌+◌, ◌-◌, ◌*◌, ◌^◌, ◌<◌, ◌≤◌, List, [], Bool, length, take, drop, refl, sym, ◌∙◌, ap, subst, arith, inl, inr, Option, Some, None}
use Rattle.std.proofs.Math.Nat.{mul-le-mul_right}
use Rattle.std.proofs.Math.Pow.{pow_mono}
use Rattle.std.proofs.Math.Seq.{take-add}
use Rattle.std.proofs.lemmas.List.{length-take-le, length-drop}
use Rattle.asn1_bits.specs.Bits.{number as number_of}
use Rattle.asn1_bits.specs.Laws.NumberLaws.{number-append, number-lt, number_is}
use Rattle.asn1_schema.specs.Encodings.{Fault, Encoding, Starts, IsAt, number, constant, invalid, cases}
use Rattle.asn1_schema.specs.Fields.{raw_bits}
use Rattle.asn1_x690.specs.declared.fault.FaultKind.{FaultKind}
use Rattle.asn1_x690.specs.declared.fault.FaultKind.TheVariants.{Short, NotMinimal}
use Rattle.asn1_x690.specs.Elements.{IsLongLength, long_length, length_after, length_octets}
use Rattle.asn1_x690_fields.specs.declared.state.State.{State}
use Rattle.asn1_x690_fields.specs.Outcomes.{rest, fault_of, IsReadAs, IsLength}
use Rattle.asn1_x690_fields.specs.Steps.{then_starts, then_fault}

-- ---- a number by its first octet

record HasFirst (d first p : ℕ) : Type 0 where
  others : ℕ
  is : d ≡ first * p + others
  below : others < p

first_bits : (list : List Bool) (at width more : ℕ) → at + (width + more) ≤ length list
    → HasFirst (number_of (take (width + more) (drop at list))) (number_of (take width (drop at list))) (2 ^ more)
first_bits list at width more h =
    let l = drop at list in
    let others = take more (drop width l) in
    let size : length others ≡ more =
    length-take-le more (drop width l) (omega (arith, length-drop width l, length-drop at list)) in
    record {
      others = number_of others;
      is = ap number_of (take-add width more l) ∙ number-append (take width l) others
          ∙ ap (λ (n : ℕ). number_of (take width l) * 2 ^ n + number_of others) size;
      below = subst (λ (n : ℕ). number_of others < 2 ^ n) size (number-lt others);
    }

no_first : (d first p : ℕ) → HasFirst d first p → first ≡ 0 → d < p
no_first d first p h none =
    let e : d ≡ 0 * p + h.others = h.is ∙ ap (λ (n : ℕ). n * p + h.others) none in
    omega (arith, e, h.below)

some_first : (d first p : ℕ) → HasFirst d first p → first ≢ 0 → p ≤ d
some_first d first p h some =
    let le : 1 * p ≤ first * p = mul-le-mul_right p (omega (arith, some)) in
    omega (arith, le, h.is)

module _ (list : List Bool) (at : ℕ) where
  abbrev pub whole : ℕ → ℕ
  whole count = number_of (take (8 * count) (drop at list))

  abbrev pub first : ℕ
  first = number_of (take 8 (drop at list))

  by_first : (count : ℕ) → 1 < count → at + 8 * count ≤ length list → HasFirst (whole count) first (2 ^ (8 * (count - 1)))
  by_first count some h =
      let e : 8 + 8 * (count - 1) ≡ 8 * count = omega (arith, some) in
      subst (λ (n : ℕ). HasFirst (number_of (take n (drop at list))) first (2 ^ (8 * (count - 1)))) e
      (first_bits list at 8 (8 * (count - 1)) (omega (arith, some, h)))

  pub is_long : (count least : ℕ) → 0 < count → at + 8 * count ≤ length list → (count ≡ 1 → least ≡ 128) → (count ≢ 1 → least ≡ 1)
      → least ≤ first → IsLongLength count (whole count)
  is_long zero least some h one more high = absurd (omega (arith, some))
  is_long (suc zero) least some h one more high = let e = one refl in (omega (arith, e, high), omega (arith, e, high))
  is_long (suc (suc n)) least some h one more high =
      let e = more (λ p. omega (arith, p)) in
      let low : 2 ^ (8 * (suc (suc n) - 1)) ≤ whole (suc (suc n)) =
      some_first (whole (suc (suc n))) first _ (by_first (suc (suc n)) (omega arith) h) (λ p. omega (arith, e, high, p)) in
      let up : 2 ^ 8 ≤ 2 ^ (8 * (suc (suc n) - 1)) = pow_mono {i = 8} {j = 8 * (suc (suc n) - 1)} (omega arith) in
      (omega (arith, low, up), low)

  pub not_long : (count least : ℕ) → 0 < count → at + 8 * count ≤ length list → (count ≡ 1 → least ≡ 128) → (count ≢ 1 → least ≡ 1)
      → first < least → IsLongLength count (whole count) → ⊥
  not_long zero least some h one more p q = omega (arith, some)
  not_long (suc zero) least some h one more p q = let e = one refl in let low = q.0 in omega (arith, e, p, low)
  not_long (suc (suc n)) least some h one more p q =
      let e = more (λ r. omega (arith, r)) in
      let few = no_first (whole (suc (suc n))) first _ (by_first (suc (suc n)) (omega arith) h) (omega (arith, e, p)) in
      let low = q.1 in
      omega (arith, few, low)

  -- a length that 64 bits do not hold
  pub is_great : (count : ℕ) → 8 < count → at + 8 * count ≤ length list → first ≢ 0 → 2 ^ 64 ≤ whole count
  is_great count many h ne =
      let low : 2 ^ (8 * (count - 1)) ≤ whole count =
      some_first (whole count) first _ (by_first count (omega (arith, many)) h) ne in
      let up : 2 ^ 64 ≤ 2 ^ (8 * (count - 1)) = pow_mono {i = 64} {j = 8 * (count - 1)} (omega (arith, many)) in
      omega (arith, low, up)

-- ---- octets that were read as they are

pub number_of_bits : (width node : ℕ) (list front left : List Bool) → Starts (raw_bits width Short node).encodes list front left
    → Starts (number width Short node).encodes list (number_of front) left
number_of_bits width node list front left s =
    let e = number_is s.front (number_of front) width s.encoded.0 (ap number_of s.encoded.1) in
    record { front = s.front; encoded = (e.0, sym e.1); parts = s.parts }

module _ (count node : ℕ) (list bits left : List Bool) (s : Starts (raw_bits (8 * count) Short node).encodes list bits left) where
  abbrev tested : ℕ → Encoding FaultKind ℕ
  tested d = cases (IsLongLength count d) (constant d) (¬ (IsLongLength count d)) (invalid NotMinimal node)

  pub long_starts : IsLongLength count (number_of bits) → Starts (long_length node count).encodes list (number_of bits) left
  long_starts long =
      then_starts (number (8 * count) Short node) (λ d n. n) tested list left left (number_of bits) (number_of bits)
      (number_of_bits (8 * count) node list bits left s) (record { front = []; encoded = inl (long, (refl, refl)); parts = refl })

  pub long_fault : (e : Fault FaultKind) → (IsLongLength count (number_of bits) → ⊥) → IsAt NotMinimal node left e
      → (long_length node count).fault list e
  long_fault e not w =
      then_fault (number (8 * count) Short node) (λ d n. n) tested list left (number_of bits) e
      (number_of_bits (8 * count) node list bits left s) (inr (not, w))

-- ---- the first octet of a length, and others

module _ (node first : ℕ) (list : List Bool) (old mid new : State) (s : Starts (number 8 Short node).encodes (rest list old) first (rest list mid))
    (high : 128 ≤ first) (not_indefinite : first ≢ 128) (not_reserved : first ≢ 255) where
  pub length_read : (r : Option ℕ) → IsReadAs (long_length node (first - 128)) IsLength list mid new r
      → IsReadAs (length_octets node) IsLength list old new r
  length_read None w =
      then_fault (number 8 Short node) (λ f n. n) (λ f. length_after node f) (rest list old) (rest list mid) first (fault_of new) s
      (inr (high, inr (not_indefinite, inr (not_reserved, w))))
  length_read (Some t) (n, shown, p) = (
    n,
    shown,
    then_starts (number 8 Short node) (λ f n. n) (λ f. length_after node f) (rest list old) (rest list mid) (rest list new) first n s
        (record { front = p.front; encoded = inr (high, inr (not_indefinite, inr (not_reserved, p.encoded))); parts = p.parts }),
  )
