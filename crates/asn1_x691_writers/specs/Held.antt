-- The number that a part holds.
use Rattle.std.specs.Prelude.{◌≡◌, ℕ, ℤ, pos, negsuc, ◌^◌, ◌≤◌}
use Rattle.asn1_schema.specs.Pieces.{Piece, Integer}
use Rattle.asn1_x691_writers.specs.declared.held.Held.{Held}
use Rattle.asn1_x691_writers.specs.declared.held.Held.TheVariants.{Number, FarAbove, FarBelow, Other}

abbrev pub IsHeld : Piece → Held → Type 0
IsHeld p (Number z) = p ≡ Integer z
IsHeld p FarAbove = (u : ℕ) × (p ≡ Integer (pos u)) × (2 ^ 127 ≤ u)
IsHeld p FarBelow = (u : ℕ) × (p ≡ Integer (negsuc u)) × (2 ^ 127 ≤ u)
IsHeld p Other = (z : ℤ) → p ≡ Integer z → ⊥
