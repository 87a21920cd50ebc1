-- Sums, differences and products of numbers of any size, where all lies within `i128`.
use Rattle.std.specs.Prelude.{◌≡◌, ℤ, Option, MatchOption}
use Rattle.asn1_number.specs.Readings.{FitsI128}

-- n, made of a and b, and these two lie within `i128`
abbrev pub AreWithinI128 : ℤ → ℤ → ℤ → Type 0
AreWithinI128 a b n = FitsI128 a × FitsI128 b × FitsI128 n

-- n exactly where it and the numbers a and b that it is made of lie within `i128`
abbrev pub IsNumberOfTwo : ℤ → ℤ → ℤ → Option ℤ → Type 0
IsNumberOfTwo a b n result =
    MatchOption result (¬ (AreWithinI128 a b n)) (λ x. (x ≡ n) × AreWithinI128 a b n)
