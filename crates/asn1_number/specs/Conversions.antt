-- Which numbers a conversion to a native type keeps.
use Rattle.std.specs.Prelude.{◌≡◌, ℤ, Result, MatchResult}
use Rattle.asn1_number.specs.Readings.{IntegerKind, IsInRange}

-- n is converted if the type holds it, otherwise it is the error
abbrev pub Converts : {T : Type 0} → IntegerKind → (T → ℤ) → ℤ → Result T ℤ → Type 0
Converts kind value n r =
    MatchResult r
    (λ x. (value x ≡ n) × IsInRange kind n)
    (λ refused. (refused ≡ n) × ¬ (IsInRange kind n))
