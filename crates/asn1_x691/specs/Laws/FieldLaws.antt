-- Laws of fields: bits begin with one value at most, and otherwise have one first fault.
use Rattle.std.proofs.Common.{◌≡◌, ℕ, ℤ, ◌+◌, ◌-◌, ◌*◌, ◌^◌, ◌<◌, ◌≤◌, inl, inr, Bool, true, false, arith}
use Rattle.std.specs.Prelude.{◌⊎◌}
use Rattle.asn1_schema.specs.Encodings.{Encoding}
use Rattle.asn1_schema.specs.Laws.EncodingLaws.{IsSound, invalid_sound, number_sound}
use Rattle.asn1_schema.specs.Laws.PositionLaws.{IsSoundEverywhere}
use Rattle.asn1_schema.specs.Laws.ByStructure.{then_of, cases_of, constant_of, invalid_of, number_of, in_turn_of, in_case_of}
use Rattle.asn1_x691.specs.declared.fault.FaultKind.{FaultKind}
use Rattle.asn1_x691.specs.declared.fault.FaultKind.TheVariants.{Short, NotMinimal}
use Rattle.asn1_x691.specs.Fields.{zeros, to_octet, on_octet, up_to, in_bits, minimal_octets, minimal_up_to, octet_count, indefinite, constrained, long_enough, length_after, length_octets, length_of, distance_from_one, above_64, large_length, small_length, semi_constrained, at_least_64, large_number, small_number, with_sign, below_minus_one, signed_of, signed_octets, unconstrained}

pub zeros_sound : (count node : ℕ) → IsSound (zeros count node)
zeros_sound count node = then_of number_of (λ n. cases_of (λ a b. omega (arith, a, b)) constant_of invalid_of)

pub on_octet_sound : {X : Type 0} (aligned : Bool) (node : ℕ) (A : Encoding FaultKind X) → IsSound A
    → IsSoundEverywhere (on_octet aligned node A)
on_octet_sound false node A a at = a
on_octet_sound true node A a at = then_of (zeros_sound (to_octet at) node) (λ u. a)

pub up_to_sound : (most node d : ℕ) → IsSound (up_to most node d)
up_to_sound most node d = cases_of (λ a b. omega (arith, a, b)) constant_of invalid_of

pub in_bits_sound : (width most node : ℕ) → IsSound (in_bits width most node)
in_bits_sound width most node = then_of number_of (λ d. up_to_sound most node d)

few_or_many : (octets d low : ℕ) → (octets ≤ 1) ⊎ (low ≤ d) → (1 < octets) × (d < low) → ⊥
few_or_many octets d low (inl p) q = omega (arith, p, q.0)
few_or_many octets d low (inr p) q = omega (arith, p, q.1)

pub minimal_octets_sound : (count node : ℕ) → IsSound (minimal_octets count node)
minimal_octets_sound count node =
    then_of number_of (λ d. cases_of (few_or_many count d (2 ^ (8 * (count - 1)))) constant_of invalid_of)

pub minimal_up_to_sound : (count most node : ℕ) → IsSound (minimal_up_to count most node)
minimal_up_to_sound count most node = then_of (minimal_octets_sound count node) (λ d. up_to_sound most node d)

octet_count_sound : (most node : ℕ) → IsSound (octet_count most node)
octet_count_sound most node = then_of (in_bits_sound _ (most - 1) node) (λ d. constant_of)

pub indefinite_sound : (range node : ℕ) → IsSoundEverywhere (indefinite range node)
indefinite_sound range node =
    in_turn_of (λ at. octet_count_sound _ node) (λ count. on_octet_sound true node _ (minimal_up_to_sound count range node))

pub constrained_sound : (aligned : Bool) (range node : ℕ) → IsSoundEverywhere (constrained aligned range node)
constrained_sound false range node at = in_bits_sound _ range node
constrained_sound true range node at =
    in_case_of (λ a b. omega (arith, a, b)) (λ n. in_bits_sound _ range node)
    (in_case_of (λ a b. b a) (on_octet_sound true node _ (in_bits_sound 8 range node))
    (in_case_of (λ a b. omega (arith, a, b)) (on_octet_sound true node _ (in_bits_sound 16 range node)) (indefinite_sound range node))) at

pub long_enough_sound : (node n : ℕ) → IsSound (long_enough node n)
long_enough_sound node n = cases_of (λ a b. omega (arith, a, b)) constant_of invalid_of

length_after_sound : (node first : ℕ) → IsSound (length_after node first)
length_after_sound node first =
    cases_of (λ a b. omega (arith, a, b)) constant_of
    (cases_of (λ a b. omega (arith, a, b)) (then_of number_of (λ second. long_enough_sound node (256 * (first - 128) + second))) invalid_of)

length_octets_sound : (node : ℕ) → IsSound (length_octets node)
length_octets_sound node = then_of number_of (length_after_sound node)

pub length_sound : (aligned : Bool) (node : ℕ) → IsSoundEverywhere (length_of aligned node)
length_sound aligned node = on_octet_sound aligned node (length_octets node) (length_octets_sound node)

distance_from_one_sound : (node : ℕ) → IsSound (distance_from_one node)
distance_from_one_sound node = then_of number_of (λ d. constant_of)

above_64_sound : (node n : ℕ) → IsSound (above_64 node n)
above_64_sound node n = cases_of (λ a b. omega (arith, a, b)) constant_of invalid_of

large_length_sound : (aligned : Bool) (node : ℕ) → IsSoundEverywhere (large_length aligned node)
large_length_sound aligned node = in_turn_of (length_sound aligned node) (λ n at. above_64_sound node n)

pub small_length_sound : (aligned : Bool) (node : ℕ) → IsSoundEverywhere (small_length aligned node)
small_length_sound aligned node =
    in_turn_of (λ at. number_of)
    (λ bit. in_case_of (λ a b. omega (arith, a, b)) (λ at. distance_from_one_sound node) (large_length_sound aligned node))

-- ---- whole numbers without an upper bound

some_or_none : (count : ℕ) → 0 < count → count ≡ 0 → ⊥
some_or_none count p q = omega (arith, p, q)

pub semi_constrained_sound : (aligned : Bool) (node : ℕ) → IsSoundEverywhere (semi_constrained aligned node)
semi_constrained_sound aligned node =
    in_turn_of (length_sound aligned node)
    (λ count. in_case_of (some_or_none count) (on_octet_sound aligned node _ (minimal_octets_sound count node)) (λ at. invalid_sound NotMinimal node))

at_least_64_sound : (node n : ℕ) → IsSound (at_least_64 node n)
at_least_64_sound node n = cases_of (λ a b. omega (arith, a, b)) constant_of invalid_of

large_number_sound : (aligned : Bool) (node : ℕ) → IsSoundEverywhere (large_number aligned node)
large_number_sound aligned node = in_turn_of (semi_constrained_sound aligned node) (λ n at. at_least_64_sound node n)

pub small_number_sound : (aligned : Bool) (node : ℕ) → IsSoundEverywhere (small_number aligned node)
small_number_sound aligned node =
    in_turn_of (λ at. number_of) (λ bit. in_case_of (λ a b. omega (arith, a, b)) (λ at. number_sound 6 Short node) (large_number_sound aligned node))

with_sign_sound : (count node u : ℕ) (z : ℤ) → IsSound (with_sign count node u z)
with_sign_sound count node u z = cases_of (few_or_many count u (2 ^ (8 * count - 9))) constant_of invalid_of

signed_of_sound : (count node d : ℕ) → IsSound (signed_of count node d)
signed_of_sound count node d =
    cases_of (λ a b. omega (arith, a, b)) (with_sign_sound count node d _) (with_sign_sound count node (below_minus_one count d) _)

pub signed_octets_sound : (count node : ℕ) → IsSound (signed_octets count node)
signed_octets_sound count node = then_of number_of (λ d. signed_of_sound count node d)

pub unconstrained_sound : (aligned : Bool) (node : ℕ) → IsSoundEverywhere (unconstrained aligned node)
unconstrained_sound aligned node =
    in_turn_of (length_sound aligned node)
    (λ count. in_case_of (some_or_none count) (on_octet_sound aligned node _ (signed_octets_sound count node)) (λ at. invalid_sound NotMinimal node))
