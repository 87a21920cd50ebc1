-- Laws of pieces and of the numbers before them: a piece tells its number, which is in its range.
use Rattle.std.proofs.Common.{◌≡◌, ℕ, ℤ, pos, ◌+ℤ◌, ◌+◌, ◌*◌, ◌≤◌, Bool, true, false, List, arith, inl, inr}
use Rattle.std.proofs.lemmas.Int.{ints}
use Rattle.std.specs.Int.Signed.{clash_ℤ, ◌<ℤ◌}
use Rattle.asn1_schema.specs.Pieces.{Absent, Truth, Integer, Enumerated, Bits, Octets, Text, Count, Chosen, Additions, Unknown}
use Rattle.asn1_schema.specs.declared.tables.Length.TheVariants.{Between}
use Rattle.asn1_x691.specs.Strings.{IsAddedSize}
use Rattle.asn1_x691.specs.Laws.RangeLaws.{constrained_within}
use Rattle.asn1_x691.specs.Fields.{constrained}
use Rattle.asn1_x691.specs.Leaves.{from_least, added_value, IsAddedValue, IsOutside, IsBetween}
use Rattle.asn1_x691.specs.Types.{count_from, added_alternative, IsAddedAlternative}

pub truth_alike : (x y : Bool) → Truth x ≡ Truth y → x ≡ y
truth_alike x y e = cc

pub integer_alike : (x y : ℤ) → Integer x ≡ Integer y → x ≡ y
integer_alike x y e = cc

pub same_distance : (least : ℤ) (d e : ℕ) → (least +ℤ pos d) ≡ (least +ℤ pos e) → d ≡ e
same_distance least d e p = omega (arith, ints)

pub from_least_alike : (least : ℤ) (x y : ℕ) → from_least least x ≡ from_least least y → x ≡ y
from_least_alike least x y e = same_distance least x y (integer_alike (least +ℤ pos x) (least +ℤ pos y) e)

pub enumerated_alike : (x y : ℕ) → Enumerated x ≡ Enumerated y → x ≡ y
enumerated_alike x y e = cc

pub bits_alike : (x y : List Bool) → Bits x ≡ Bits y → x ≡ y
bits_alike x y e = cc

pub octets_alike : (x y : List Bool) → Octets x ≡ Octets y → x ≡ y
octets_alike x y e = cc

pub text_alike : (x y : List ℕ) → Text x ≡ Text y → x ≡ y
text_alike x y e = cc

pub count_alike : (x y : ℕ) → Count x ≡ Count y → x ≡ y
count_alike x y e = cc

pub count_from_alike : (least x y : ℕ) → count_from least x ≡ count_from least y → x ≡ y
count_from_alike least x y e = let p = count_alike (least + x) (least + y) e in omega (arith, p)

pub chosen_alike : (x y : ℕ) → Chosen x ≡ Chosen y → x ≡ y
chosen_alike x y e = cc

pub unknown_alike : (x y : List Bool) → Unknown x ≡ Unknown y → x ≡ y
unknown_alike x y e = cc

pub additions_alike : (x y : ℕ) → Additions x ≡ Additions y → x ≡ y
additions_alike x y e = cc

-- an addition's piece tells its index
pub added_value_alike : (last : ℕ) (b c : Bool) (x y : ℕ) → added_value last b x ≡ added_value last c y → x ≡ y
added_value_alike last false false x y e = cc
added_value_alike last false true x y e = cc
added_value_alike last true false x y e = cc
added_value_alike last true true x y e = let p = enumerated_alike (last + 1 + x) (last + 1 + y) e in omega (arith, p)

pub added_alternative_alike : (last : ℕ) (b c : Bool) (x y : ℕ) → added_alternative last b x ≡ added_alternative last c y → x ≡ y
added_alternative_alike last false false x y e = cc
added_alternative_alike last false true x y e = cc
added_alternative_alike last true false x y e = cc
added_alternative_alike last true true x y e = let p = chosen_alike (last + 1 + x) (last + 1 + y) e in omega (arith, p)

pub added_value_present : (last : ℕ) (b : Bool) (x : ℕ) → added_value last b x ≡ Absent → ⊥
added_value_present last false x e = cc
added_value_present last true x e = cc

pub added_alternative_present : (last : ℕ) (b : Bool) (x : ℕ) → added_alternative last b x ≡ Absent → ⊥
added_alternative_present last false x e = cc
added_alternative_present last true x e = cc

-- it is that of an addition
pub is_added_value : (last : ℕ) (b : Bool) (x : ℕ) → IsAddedValue last (added_value last b x)
is_added_value last false x = tt
is_added_value last true x = omega arith

pub is_added_alternative : (last : ℕ) (b : Bool) (x : ℕ) → IsAddedAlternative last (added_alternative last b x)
is_added_alternative last false x = tt
is_added_alternative last true x = omega arith

pub one_apart : (m n : ℕ) → 1 * m ≡ 1 * n → m ≡ n
one_apart m n e = omega (arith, e)

pub eight_apart : (m n : ℕ) → 8 * m ≡ 8 * n → m ≡ n
eight_apart m n e = omega (arith, e)

-- the number of the items is one of the root
pub count_is_not_added : (aligned : Bool) (least range node at d : ℕ) (k : List Bool)
    → (constrained aligned range node at).encodes d k → IsAddedSize (Between least range) (least + d) → ⊥
count_is_not_added aligned least range node at d k p (inl q) = omega (arith, q)
count_is_not_added aligned least range node at d k p (inr q) =
    let few = constrained_within aligned range node at d k p in omega (arith, few, q)

-- ---- an INTEGER that is none of the root

pub from_least_between : (least : ℤ) (range d : ℕ) → d ≤ range → IsOutside least range (least +ℤ pos d) → ⊥
from_least_between least range d few (inl p) = omega (arith, ints, few, p)
from_least_between least range d few (inr p) = omega (arith, ints, few, p)

pub from_least_at_least : (least : ℤ) (d : ℕ) → (least +ℤ pos d) <ℤ least → ⊥
from_least_at_least least d p = omega (arith, ints, p)

pub outside_apart : (least : ℤ) (range : ℕ) (n : ℤ) → IsOutside least range n → IsBetween least range n → ⊥
outside_apart least range n (inl p) q = clash_ℤ p q.0
outside_apart least range n (inr p) q = clash_ℤ p q.1
