-- Elements: identifier octets, a length, and contents octets (X.690 8.1).
use Rattle.std.specs.Prelude.{◌≡◌, ◌≢◌, ℕ, zero, suc, ◌-◌, ◌*◌, ◌/◌, ◌%◌, ◌^◌, ◌<◌, ◌≤◌, Bool, List, slice_index}
use Rattle.asn1_bits.specs.Bits.{is_odd}
use Rattle.asn1_oid.specs.Contents.{base_128}
use Rattle.asn1_schema.specs.Encodings.{Encoding, constant, invalid, then, cases, number}
use Rattle.asn1_schema.specs.Fields.{raw_bits}
use Rattle.asn1_x690.specs.declared.fault.FaultKind.{FaultKind}
use Rattle.asn1_x690.specs.declared.fault.FaultKind.TheVariants.{Short, NotMinimal, Indefinite, Reserved}
use Rattle.asn1_x690.specs.declared.tables.Class.{Class}
use Rattle.asn1_x690.specs.declared.tables.Class.TheVariants.{Universal, Application, Context, Private}
use Rattle.asn1_x690.specs.declared.tables.Identifier.{Identifier}
use Rattle.asn1_x690.specs.Series.{series}

-- ---- identifier octets (8.1.2)

-- bits 8 and 7 of the first octet (8.1.2.2)
abbrev pub class_of : ℕ → Class
class_of zero = Universal
class_of (suc zero) = Application
class_of (suc (suc zero)) = Context
class_of (suc (suc (suc n))) = Private

-- by the first octet and the number of the tag: bit 6 is 1 where the contents are elements (8.1.2.5)
abbrev pub identifier_of : ℕ → ℕ → Identifier
identifier_of first n =
    record { tag = record { class = class_of (first / 64); number = n }; is_constructed = is_odd (first / 32) }

-- octets of which bits 7 to 1 are the digits of a number from 31 on, and the first digit is not 0 (8.1.2.4.2)
abbrev pub IsLongNumber : List ℕ → Type 0
IsLongNumber octets = (slice_index octets 0 ≢ 128) × (31 ≤ base_128 octets)

-- bit 8 is 1 in each octet but the last (8.1.2.4.2)
abbrev pub long_number : ℕ → Encoding FaultKind ℕ
long_number node =
    then (series (number 8 Short node) (λ octet. 128 ≤ octet) (λ octet. octet < 128)) (λ octets n. n)
    (λ octets. cases (IsLongNumber octets) (constant (base_128 octets)) (¬ (IsLongNumber octets)) (invalid NotMinimal node))

-- bits 5 to 1 of the first octet, where they are not all 1 (8.1.2.3); otherwise the octets after it (8.1.2.4)
abbrev pub number_after : ℕ → ℕ → Encoding FaultKind ℕ
number_after node first = cases (first % 32 < 31) (constant (first % 32)) (first % 32 ≡ 31) (long_number node)

abbrev pub identifier : ℕ → Encoding FaultKind Identifier
identifier node = then (number 8 Short node) identifier_of (λ first. number_after node first)

-- ---- lengths: definite, of minimal length (8.1.3, 10.1)

-- `octets` octets hold a length, and no fewer do; one alone would hold it below 128
abbrev pub IsLongLength : ℕ → ℕ → Type 0
IsLongLength octets n = (128 ≤ n) × (2 ^ (8 * (octets - 1)) ≤ n)

abbrev pub long_length : ℕ → ℕ → Encoding FaultKind ℕ
long_length node octets =
    then (number (8 * octets) Short node) (λ d n. n)
    (λ d. cases (IsLongLength octets d) (constant d) (¬ (IsLongLength octets d)) (invalid NotMinimal node))

-- 80 is the indefinite form (8.1.3.6), and FF is reserved (8.1.3.5 c)
abbrev pub length_after : ℕ → ℕ → Encoding FaultKind ℕ
length_after node first =
    -- the short form (8.1.3.4)
    cases (first < 128) (constant first) (128 ≤ first)
    (cases (first ≡ 128) (invalid Indefinite node) (first ≢ 128)
    (cases (first ≡ 255) (invalid Reserved node) (first ≢ 255)
    -- the long form: bits 7 to 1 tell how many octets follow (8.1.3.5)
    (long_length node (first - 128))))

abbrev pub length_octets : ℕ → Encoding FaultKind ℕ
length_octets node = then (number 8 Short node) (λ first n. n) (λ first. length_after node first)

-- ---- elements

-- the length, and as many octets (8.1.3.1, 8.1.4)
abbrev pub contents_after : ℕ → Encoding FaultKind (List Bool)
contents_after node = then (length_octets node) (λ n contents. contents) (λ n. raw_bits (8 * n) Short node)

-- an element of some identifier and contents octets (8.1.1.1)
abbrev pub any_element : ℕ → Encoding FaultKind (Identifier × List Bool)
any_element node = then (identifier node) (λ id contents. (id, contents)) (λ id. contents_after node)
