-- The least width, by the zeros before the highest digit.
use Rattle.std.proofs.Common.{◌≡◌, ℕ, suc, ◌-◌, ◌<◌, ◌≤◌, ◌^◌, arith}
use Rattle.std.specs.Int.Count.{count_leading_zeros}
use Rattle.std.proofs.lemmas.Nat.{leading_top}
use Rattle.asn1_characters.specs.Widths.{IsLeastWidth}
use Rattle.asn1_characters.specs.Laws.WidthLaws.{too_few}

-- the width of some things is that of the digits of one less
pub digits_are_least : (n : ℕ) → 1 < n → n ≤ 2 ^ 32 → IsLeastWidth n (64 - count_leading_zeros 64 (n - 1))
digits_are_least n some few =
    let top = leading_top 64 (n - 1) (omega arith) (omega arith) in
    let e : 64 - count_leading_zeros 64 (n - 1) ≡ suc top.0 = omega arith in
    rw e (record { enough = omega arith; least = λ v h. omega (arith, too_few n top.0 v (omega arith) h) })

-- one thing, or none, has no width
pub none_is_least : (n : ℕ) → n ≤ 1 → IsLeastWidth n 0
none_is_least n few = record { enough = omega arith; least = λ v h. omega arith }
