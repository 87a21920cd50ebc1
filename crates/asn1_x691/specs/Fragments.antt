-- Units after their number, of any number: in fragments from 16,384 on (X.691 11.9.3.5 to 11.9.3.8).
use Rattle.std.specs.Prelude.{ℕ, zero, suc, ◌+◌, ◌-◌, ◌*◌, ◌<◌, ◌≤◌, ◌⊎◌, Bool, List, ◌++◌}
use Rattle.asn1_schema.specs.Encodings.{Encoding, constant, invalid, then, cases, number, anywhere, in_turn, in_case}
use Rattle.asn1_schema.specs.Fields.{raw_bits}
use Rattle.asn1_x691.specs.declared.fault.FaultKind.{FaultKind}
use Rattle.asn1_x691.specs.declared.fault.FaultKind.TheVariants.{Short, NotMinimal, Fragment, Unsupported}
use Rattle.asn1_x691.specs.Fields.{on_octet, long_enough}

-- a fragment of one to four times 16,384 units
abbrev pub fragment : ℕ → ℕ → Encoding FaultKind ℕ
fragment node times =
    cases ((1 ≤ times) × (times ≤ 4)) (constant (16384 * times)) ((times < 1) ⊎ (4 < times)) (invalid Fragment node)

-- after a first octet, how many units follow it: seven bits of it; fourteen bits after the bits 1 and 0; a fragment after 1 and 1
abbrev pub units_after : ℕ → ℕ → Encoding FaultKind ℕ
units_after node first =
    cases (first < 128) (constant first) (128 ≤ first)
    (cases (first < 192) (then (number 8 Short node) (λ second n. n) (λ second. long_enough node (256 * (first - 128) + second)))
    (192 ≤ first) (fragment node (first - 192)))

abbrev pub units_octets : ℕ → Encoding FaultKind ℕ
units_octets node = then (number 8 Short node) (λ first n. n) (λ first. units_after node first)

abbrev pub units_next : Bool → ℕ → ℕ → Encoding FaultKind ℕ
units_next aligned node = on_octet aligned node (units_octets node)

-- this many fragments are more units than a computer counts
unfoldable pub most_fragments : ℕ
most_fragments = 281474976710656

-- U says how n units are encoded, and `join` joins what two fragments hold
module _ {Y : Type 0} (U : ℕ → ℕ → Encoding FaultKind Y) (join : Y → Y → Y) (aligned : Bool) (node : ℕ) where
  -- `n` units, with their number
  abbrev pub units : ℕ → ℕ → Encoding FaultKind (ℕ × Y)
  units n = in_turn (U n) (λ y u. (n, y)) (λ y. anywhere (constant (tt {0})))

  -- `n` units, then others
  abbrev pub units_then : ℕ → (ℕ → Encoding FaultKind (ℕ × Y)) → ℕ → Encoding FaultKind (ℕ × Y)
  units_then n R = in_turn (U n) (λ y v. (n + v.0, join y v.1)) (λ y. R)

  -- fewer than 16,384 units, maybe none; a fragment has a fault of this kind
  abbrev pub units_below : FaultKind → ℕ → Encoding FaultKind (ℕ × Y)
  units_below kind = in_turn (units_next aligned node) (λ n v. v) (λ n.
      in_case (n < 16384) (units n) (16384 ≤ n) (anywhere (invalid kind node)))

  -- the last units: another fragment would not be minimal
  abbrev pub last_units : ℕ → Encoding FaultKind (ℕ × Y)
  last_units = units_below NotMinimal

  -- all units, in at most this many fragments and the last units. The largest fragments come first, so one of fewer than 65,536
  -- units is followed by the last.
  abbrev pub all_units : ℕ → ℕ → Encoding FaultKind (ℕ × Y)
  all_units zero = units_below Unsupported
  all_units (suc more) = in_turn (units_next aligned node) (λ n v. v) (λ n.
      in_case (n < 16384) (units n) (16384 ≤ n)
      (in_case (n < 65536) (units_then n last_units) (65536 ≤ n) (units_then n (all_units more))))

-- units of `unit` bits each, as they are: BIT STRING, OCTET STRING, and strings without an upper bound (16.11, 17.8, 30.5.7)
abbrev pub bits_of_units : ℕ → ℕ → ℕ → ℕ → Encoding FaultKind (List Bool)
bits_of_units unit node n = anywhere (raw_bits (unit * n) Short node)

abbrev pub string : ℕ → Bool → ℕ → ℕ → ℕ → Encoding FaultKind (ℕ × List Bool)
string most aligned unit node = all_units (bits_of_units unit node) (λ a b. a ++ b) aligned node most

-- octets after their number (17.8)
abbrev pub octets : ℕ → Bool → ℕ → ℕ → Encoding FaultKind (List Bool)
octets most aligned node = in_turn (string most aligned 8 node) (λ v u. v.1) (λ v. anywhere (constant (tt {0})))
