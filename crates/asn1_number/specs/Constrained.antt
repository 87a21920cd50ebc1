-- The numbers that a `ConstrainedInteger` accepts.
use Rattle.std.specs.Prelude.{◌≡◌, ℕ, ℤ, ◌≤ℤ◌, Result, MatchResult}
use Rattle.asn1_number.specs.declared.constrained.ConstrainedInteger.{ConstrainedInteger}

-- the number that it holds; its bounds are part of its type
abbrev pub constrained_number : {START END : ℕ} → ConstrainedInteger START END → ℤ
constrained_number c = c.kept.number

-- n lies from start to end, both included
abbrev pub IsWithin : ℤ → ℤ → ℤ → Type 0
IsWithin start end n = (start ≤ℤ n) × (n ≤ℤ end)

-- n is kept if it lies from start to end, otherwise it is the error
abbrev pub AcceptsFrom : {START END : ℕ} →
    ℤ → ℤ → ℤ → Result (ConstrainedInteger START END) ℤ → Type 0
AcceptsFrom start end n r =
    MatchResult r
    (λ c. (constrained_number c ≡ n) × IsWithin start end n)
    (λ refused. (refused ≡ n) × ¬ (IsWithin start end n))
