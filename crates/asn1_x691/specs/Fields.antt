-- The fields of the packed encoding rules (X.691), both variants: `aligned` is true in the ALIGNED and false in the UNALIGNED
-- variant. `at` bits of the message precede the field.
use Rattle.std.specs.Prelude.{◌≡◌, ◌≢◌, ℕ, ℤ, pos, negsuc, ◌+◌, ◌-◌, ◌*◌, ◌/◌, ◌%◌, ◌^◌, ◌<◌, ◌≤◌, ◌⊎◌, ⊤, Bool, true, false}
use Rattle.asn1_characters.specs.Widths.{ceil_log2}
use Rattle.asn1_schema.specs.Encodings.{Encoding, constant, invalid, then, cases, number, anywhere, in_turn, in_case}
use Rattle.asn1_x691.specs.declared.fault.FaultKind.{FaultKind}
use Rattle.asn1_x691.specs.declared.fault.FaultKind.TheVariants.{Short, AboveMost, NotMinimal, Fragment, NotZero}

-- ---- bit-fields, and octet-aligned bit-fields

-- `count` bits, all zero
abbrev pub zeros : ℕ → ℕ → Encoding FaultKind ⊤
zeros count node = then (number count Short node) (λ n u. u) (λ n. cases (n ≡ 0) (constant tt) (0 < n) (invalid NotZero node))

-- how many bits are missing to whole octets
abbrev pub to_octet : ℕ → ℕ
to_octet at = (8 - at % 8) % 8

-- how many bits of an octet precede a position: in the ALIGNED variant the encoding of a value depends on them, in the UNALIGNED variant
-- on no position
abbrev pub phase : Bool → ℕ → ℕ
phase false at = 0
phase true at = at % 8

-- a field that begins at an octet in the ALIGNED variant: zeros up to the octet precede it (11.2.6, 11.5.7, 11.9.3.3)
abbrev pub on_octet : {X : Type 0} → Bool → ℕ → Encoding FaultKind X → ℕ → Encoding FaultKind X
on_octet false node A at = A
on_octet true node A at = then (zeros (to_octet at) node) (λ u x. x) (λ u. A)

-- ---- whole numbers, each by its distance from the least

-- the least width in which the numbers from 0 to `most` have encodings of their own (11.5.7.1)
unfoldable pub width_to : ℕ → ℕ
width_to most = ceil_log2 (most + 1)

-- a number that does not exceed the greatest
abbrev pub up_to : ℕ → ℕ → ℕ → Encoding FaultKind ℕ
up_to most node d = cases (d ≤ most) (constant d) (most < d) (invalid AboveMost node)

-- a number from 0 to the greatest, in `width` bits (11.3)
abbrev pub in_bits : ℕ → ℕ → ℕ → Encoding FaultKind ℕ
in_bits width most node = then (number width Short node) (λ d n. n) (λ d. up_to most node d)

-- how many octets `len` bits need, one at least
abbrev pub octets_needed : ℕ → ℕ
octets_needed len = (len - 1) / 8 + 1

-- a number in `octets` octets, and no fewer (11.3.6)
abbrev pub minimal_octets : ℕ → ℕ → Encoding FaultKind ℕ
minimal_octets octets node = then (number (8 * octets) Short node) (λ d n. n) (λ d.
    cases ((octets ≤ 1) ⊎ (2 ^ (8 * (octets - 1)) ≤ d)) (constant d) ((1 < octets) × (d < 2 ^ (8 * (octets - 1)))) (invalid NotMinimal node))

abbrev pub minimal_up_to : ℕ → ℕ → ℕ → Encoding FaultKind ℕ
minimal_up_to octets most node = then (minimal_octets octets node) (λ d n. n) (λ d. up_to most node d)

-- a number of octets, one at least, by its distance from 1
abbrev pub octet_count : ℕ → ℕ → Encoding FaultKind ℕ
octet_count most node = then (in_bits (width_to (most - 1)) (most - 1) node) (λ d n. n) (λ d. constant (d + 1))

-- the number of its octets, then the number in them (11.5.7.4, 13.2.6 a)
abbrev pub indefinite : ℕ → ℕ → ℕ → Encoding FaultKind ℕ
indefinite range node = in_turn (anywhere (octet_count (octets_needed (width_to range)) node)) (λ octets n. n) (λ octets.
    on_octet true node (minimal_up_to octets range node))

-- a constrained whole number from 0 to the range, which is the distance of the greatest from the least (11.5)
abbrev pub constrained : Bool → ℕ → ℕ → ℕ → Encoding FaultKind ℕ
-- the least width (11.5.6)
constrained false range node = anywhere (in_bits (width_to range) range node)
constrained true range node =
    -- up to 255 numbers: the same (11.5.7.1)
    in_case (range < 255) (anywhere (in_bits (width_to range) range node)) (255 ≤ range)
    -- 256 numbers: one octet (11.5.7.2)
    (in_case (range ≡ 255) (on_octet true node (in_bits 8 range node)) (range ≢ 255)
    -- up to 65,536 numbers: two octets (11.5.7.3)
    (in_case (range < 65536) (on_octet true node (in_bits 16 range node)) (65536 ≤ range)
    -- more: in the minimal number of octets, after their number (11.5.7.4)
    (indefinite range node)))

-- ---- lengths without an upper bound, below 16,384 (11.9.3.5 to 11.9.3.7)

-- a length of fourteen bits, which seven do not hold
abbrev pub long_enough : ℕ → ℕ → Encoding FaultKind ℕ
long_enough node n = cases (128 ≤ n) (constant n) (n < 128) (invalid NotMinimal node)

-- after a first octet: the octet itself below 128; fourteen bits after the bits 1 and 0; a fragment after 1 and 1
abbrev pub length_after : ℕ → ℕ → Encoding FaultKind ℕ
length_after node first =
    cases (first < 128) (constant first) (128 ≤ first)
    (cases (first < 192) (then (number 8 Short node) (λ second n. n) (λ second. long_enough node (256 * (first - 128) + second)))
    (192 ≤ first) (invalid Fragment node))

abbrev pub length_octets : ℕ → Encoding FaultKind ℕ
length_octets node = then (number 8 Short node) (λ first n. n) (λ first. length_after node first)

abbrev pub length_of : Bool → ℕ → ℕ → Encoding FaultKind ℕ
length_of aligned node = on_octet aligned node (length_octets node)

-- a length from 1 to 64, by its distance from 1 in six bits after a bit 0; a greater one after a bit 1 (11.9.3.4)
abbrev pub distance_from_one : ℕ → Encoding FaultKind ℕ
distance_from_one node = then (number 6 Short node) (λ d n. n) (λ d. constant (d + 1))

abbrev pub above_64 : ℕ → ℕ → Encoding FaultKind ℕ
above_64 node n = cases (64 < n) (constant n) (n ≤ 64) (invalid NotMinimal node)

abbrev pub large_length : Bool → ℕ → ℕ → Encoding FaultKind ℕ
large_length aligned node = in_turn (length_of aligned node) (λ n m. m) (λ n. anywhere (above_64 node n))

abbrev pub small_length : Bool → ℕ → ℕ → Encoding FaultKind ℕ
small_length aligned node = in_turn (anywhere (number 1 Short node)) (λ bit n. n) (λ bit.
    in_case (bit ≡ 0) (anywhere (distance_from_one node)) (0 < bit) (large_length aligned node))

-- ---- whole numbers without an upper bound

-- a number from 0 on, in the minimal number of octets after their number (11.7)
abbrev pub semi_constrained : Bool → ℕ → ℕ → Encoding FaultKind ℕ
semi_constrained aligned node = in_turn (length_of aligned node) (λ count d. d) (λ count.
    in_case (0 < count) (on_octet aligned node (minimal_octets count node)) (count ≡ 0) (anywhere (invalid NotMinimal node)))

-- a number below 64 in six bits after a bit 0; a greater one after a bit 1 (11.6)
abbrev pub at_least_64 : ℕ → ℕ → Encoding FaultKind ℕ
at_least_64 node n = cases (64 ≤ n) (constant n) (n < 64) (invalid NotMinimal node)

abbrev pub large_number : Bool → ℕ → ℕ → Encoding FaultKind ℕ
large_number aligned node = in_turn (semi_constrained aligned node) (λ n m. m) (λ n. anywhere (at_least_64 node n))

abbrev pub small_number : Bool → ℕ → ℕ → Encoding FaultKind ℕ
small_number aligned node = in_turn (anywhere (number 1 Short node)) (λ bit n. n) (λ bit.
    in_case (bit ≡ 0) (anywhere (number 6 Short node)) (0 < bit) (large_number aligned node))

-- a value in `count` octets of two's complement, and no fewer: u is the number, or its distance below -1 (11.8, X.690 8.3.2)
abbrev pub with_sign : ℕ → ℕ → ℕ → ℤ → Encoding FaultKind ℤ
with_sign count node u z =
    cases ((count ≤ 1) ⊎ (2 ^ (8 * count - 9) ≤ u)) (constant z) ((1 < count) × (u < 2 ^ (8 * count - 9))) (invalid NotMinimal node)

-- how far the digits are below those of -1
abbrev pub below_minus_one : ℕ → ℕ → ℕ
below_minus_one count d = 2 ^ (8 * count) - 1 - d

abbrev pub signed_of : ℕ → ℕ → ℕ → Encoding FaultKind ℤ
signed_of count node d =
    cases (d < 2 ^ (8 * count - 1)) (with_sign count node d (pos d)) (2 ^ (8 * count - 1) ≤ d)
    (with_sign count node (below_minus_one count d) (negsuc (below_minus_one count d)))

abbrev pub signed_octets : ℕ → ℕ → Encoding FaultKind ℤ
signed_octets count node = then (number (8 * count) Short node) (λ d z. z) (λ d. signed_of count node d)

-- a whole number, in the minimal number of octets after their number (11.8)
abbrev pub unconstrained : Bool → ℕ → ℕ → Encoding FaultKind ℤ
unconstrained aligned node = in_turn (length_of aligned node) (λ count z. z) (λ count.
    in_case (0 < count) (on_octet aligned node (signed_octets count node)) (count ≡ 0) (anywhere (invalid NotMinimal node)))
