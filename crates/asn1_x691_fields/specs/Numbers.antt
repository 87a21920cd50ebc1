-- What a call that reads a number without an upper bound says of its result.
use Rattle.std.specs.Prelude.{◌≡◌, ℕ, ℤ, pos, negsuc, ◌+◌, ◌%◌, ◌^◌, ◌<◌, ◌≤◌, Bool, List}
use Rattle.asn1_bits.specs.Bits.{number}
use Rattle.asn1_schema.specs.declared.part.Span.{Span}
use Rattle.asn1_schema.specs.declared.part.Natural.{Natural}
use Rattle.asn1_schema.specs.declared.part.Natural.TheVariants.{Small, Large}
use Rattle.asn1_schema.specs.PiecesOfParts.{bits_of}
use Rattle.asn1_x691_fields.specs.declared.state.State.{State}

-- the octets of a number, at least one, which were read last
pub record AreOctets (s : Span) (new : State) : Type 0 where
  pub some : 0 < s.count
  pub whole : s.count % 8 ≡ 0
  pub few : s.count < 131072
  pub last : s.at + s.count ≡ new.at

-- a number from 0 on is kept as octets of the message only where it does not fit 64 bits
abbrev pub IsNatural : List Bool → State → Natural → Type 0
IsNatural list new (Small n) = Unit {0}
IsNatural list new (Large s) = AreOctets s new × (2 ^ 64 ≤ number (bits_of list s))

-- how far a number is from 0, or below 0 from -1
abbrev pub distance : ℤ → ℕ
distance (pos n) = n
distance (negsuc n) = n
