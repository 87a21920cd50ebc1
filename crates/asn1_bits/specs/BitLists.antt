-- Equality, order and hash of lists of bits: false is below true, and a front is below what it
-- begins. The laws that `==`, order and hash of a type owe are here once, for what shows its
-- value as a list of bits.
use Rattle.std.specs.Prelude.{◌≡◌, ℕ, ◌*◌, Bool, true, false, List, ◌++◌, length, take, drop, map}
use Rattle.std.proofs.Common.{refl, Ordering}
use Rattle.std.specs.Bool.{beq}
use Rattle.std.specs.Cmp.{Agrees, IsEquivalence, IsTotalOrder, on_equiv, on_total, bool_eq_equiv, bool_cmp_total, booleans_Decides}
use Rattle.std.specs.Cmp.Lexicographic.{pointwise, slice_cmp, lists_equiv, lists_total, lists_ties, pointwise_decides}
use Rattle.std.specs.Hash as fed
use Rattle.std.specs.Hash.{Alike, HashWrites, on_Alike, same_Alike}
use Rattle.std.specs.Int.{div_ceil}
use Rattle.std.specs.List.{range_with_len}
use Rattle.std.specs.Ordering.{on, bool_cmp, eq_by_cmp, as_partial_cmp}
use Rattle.asn1_bits.specs.Bits.{number}

-- whether two lists of bits are equal
abbrev pub bits_eq : List Bool → List Bool → Bool
bits_eq = pointwise beq

abbrev pub bits_cmp : List Bool → List Bool → Ordering
bits_cmp = slice_cmp bool_cmp

-- the first n words of a list of bits as a hasher is fed them: 64 bits each, the last one fewer
-- where the list ends in it
unfoldable pub words_fed : List Bool → ℕ → HashWrites
words_fed list n = map (λ k. fed.le_bytes 8 (number (take 64 (drop (64 * k) list)))) (range_with_len 0 n)

-- what the hash of a list of bits feeds a hasher: how many there are, and its words
abbrev pub bits_fed : List Bool → HashWrites
bits_fed list = fed.usize (length list) ++ words_fed list (div_ceil (length list) 64)

-- `==` by the list is an equivalence
pub equiv_by : {K : Type 0} (list : K → List Bool) → IsEquivalence (on list bits_eq)
equiv_by list = on_equiv list (lists_equiv bool_eq_equiv)

-- the order by the list is total
pub total_by : {K : Type 0} (list : K → List Bool) → IsTotalOrder (on list bits_cmp)
total_by list = on_total list (lists_total bool_cmp_total)

bit_ties : (x y : Bool) → beq x y ≡ eq_by_cmp bool_cmp x y
bit_ties false false = refl
bit_ties false true = refl
bit_ties true false = refl
bit_ties true true = refl

-- two are equal exactly where neither is below the other
pub ties_by : {K : Type 0} (list : K → List Bool) (x y : K) → on list bits_eq x y ≡ eq_by_cmp (on list bits_cmp) x y
ties_by list x y = lists_ties bool_cmp bit_ties (list x) (list y)

pub agrees_by : {K : Type 0} (list : K → List Bool) → Agrees (as_partial_cmp (on list bits_cmp)) (on list bits_cmp)
agrees_by list x y = refl

-- equal ones are hashed alike
pub alike_by : {K : Type 0} (list : K → List Bool) → Alike (on list bits_eq) (λ x. bits_fed (list x))
alike_by list = on_Alike list (same_Alike bits_fed (pointwise_decides booleans_Decides))
