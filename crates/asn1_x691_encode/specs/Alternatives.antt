-- The addition of a CHOICE that follows a part.
use Rattle.std.specs.Prelude.{◌≡◌, ℕ, ◌+◌, ◌^◌, ◌<◌, ◌≤◌}
use Rattle.asn1_schema.specs.Pieces.{Piece, Chosen, UnknownChosen}
use Rattle.asn1_x691.specs.Types.{alternative_of_addition}
use Rattle.asn1_x691_encode.specs.declared.added_choice.Alternative.{Alternative}
use Rattle.asn1_x691_encode.specs.declared.added_choice.Alternative.TheVariants.{Known, Unknown, Far, Other}

-- the first `known` additions are known, which follow the last alternative of the root
abbrev pub IsAlternative : ℕ → ℕ → Piece → Alternative → Type 0
IsAlternative last known p (Known i) = (i < known) × (p ≡ Chosen (last + 1 + i))
IsAlternative last known p (Unknown i) = (known ≤ i) × (p ≡ UnknownChosen i)
IsAlternative last known p Far = (n : ℕ) × (p ≡ UnknownChosen n) × (2 ^ 128 ≤ n)
IsAlternative last known p Other = (i : ℕ) → p ≡ alternative_of_addition last known i → ⊥
