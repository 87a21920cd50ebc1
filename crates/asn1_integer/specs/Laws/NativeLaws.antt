-- The laws of the trait, at a native type and at `Integer`.
use Rattle.std.specs.Prelude.{◌≡◌, ℕ, ◌*◌, ◌/◌, ℤ, List, Bool, true, false, Ok, refl}
use Rattle.std.proofs.Common.{sym, lit<}
use Rattle.std.proofs.Math.Nat.{mul-div_cancel_left}
use Rattle.asn1_number.specs.Octets.{IsShortest}
use Rattle.asn1_number.specs.Readings.{SignedOf, UnsignedOf, Unbounded, IsInRange, width_of, signed_reading}
use Rattle.asn1_number.specs.Laws.LawsHold.{shortest_are_read_back}
use Rattle.asn1_integer.specs.NativeBits.{native_kind, IsNativeSize}

pub native_reads_shortest : (is_signed : Bool) (size : ℕ) → IsNativeSize size →
    (n : ℤ) (octets : List ℕ) → IsInRange (native_kind is_signed size) n → IsShortest n octets →
    signed_reading (native_kind is_signed size) octets ≡ Ok n
native_reads_shortest true size sized n octets r s =
    shortest_are_read_back (SignedOf size) n octets sized.0 r s
native_reads_shortest false size sized n octets r s =
    shortest_are_read_back (UnsignedOf size) n octets sized.0 r s

pub unbounded_reads_shortest : (n : ℤ) (octets : List ℕ) →
    IsInRange Unbounded n → IsShortest n octets →
    signed_reading Unbounded octets ≡ Ok n
unbounded_reads_shortest n octets r s = shortest_are_read_back Unbounded n octets r r s

pub native_width : (is_signed : Bool) (size : ℕ) → 8 * size ≡ width_of (native_kind is_signed size)
native_width true size = refl
native_width false size = refl

pub octets_of_width : (size : ℕ) → size ≡ 8 * size / 8
octets_of_width size = sym (mul-div_cancel_left size (lit< tt))
