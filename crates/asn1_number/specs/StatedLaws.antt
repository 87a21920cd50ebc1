-- What follows from the definitions, for every number and every list of octets.
use Rattle.std.specs.Prelude.{◌≡◌, ℕ, ◌<◌, ◌≤◌, ◌↔◌, ℤ, List, length, ⊤, Ok}
use Rattle.std.specs.Ordering.{int_cmp}
use Rattle.asn1_number.specs.Octets.{IsOctets, signed, IsShortest}
use Rattle.asn1_number.specs.Order.{NineBitsDiffer, octets_cmp}
use Rattle.asn1_number.specs.Shortest.{shortest_octets}
use Rattle.asn1_number.specs.Readings.{IntegerKind, SignedOf, UnsignedOf, Unbounded, IsInRange, signed_reading}

-- every number has a shortest list, and no other
abbrev pub EachNumberHasOneShortestList : Type 0
EachNumberHasOneShortestList =
    (n : ℤ) → (o : List ℕ) × IsShortest n o × ((other : List ℕ) → IsShortest n other → other ≡ o)

-- the list that is computed is that one
abbrev pub ComputedAreShortest : Type 0
ComputedAreShortest = (n : ℤ) → IsShortest n (shortest_octets n)

-- octets are shortest for a number exactly where the eight bits of the first and bit 8 of the
-- second are not all alike (X.690 8.3.2); one octet always is
abbrev pub ShortestByNineBits : Type 0
ShortestByNineBits =
    (o : List ℕ) → IsOctets o → 0 < length o → IsShortest (signed o) o ↔ NineBitsDiffer o

-- to compare the shortest octets of two numbers is to compare the numbers
abbrev pub ShortestKeepOrder : Type 0
ShortestKeepOrder =
    (m n : ℤ) (a b : List ℕ) → IsShortest m a → IsShortest n b → octets_cmp a b ≡ int_cmp m n

-- the type has at least one octet
abbrev pub HasOctets : IntegerKind → Type 0
HasOctets (SignedOf size) = 1 ≤ size
HasOctets (UnsignedOf size) = 1 ≤ size
HasOctets Unbounded = ⊤

-- each type reads each of its numbers from the number's shortest octets
abbrev pub ShortestAreReadBack : Type 0
ShortestAreReadBack =
    (kind : IntegerKind) (n : ℤ) (o : List ℕ) → HasOctets kind → IsInRange kind n → IsShortest n o
    → signed_reading kind o ≡ Ok n
