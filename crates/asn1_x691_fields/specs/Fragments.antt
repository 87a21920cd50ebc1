-- Units that were read in fragments (X.691 11.9.3.8): they are within the message.
use Rattle.std.specs.Prelude.{◌≡◌, ℕ, zero, suc, ◌+◌, ◌*◌, ◌%◌, ◌≤◌, Bool, List, length}
use Rattle.asn1_schema.specs.declared.part.Span.{Span}
use Rattle.asn1_schema.specs.declared.part.Fragments.{Fragments}
use Rattle.asn1_schema.specs.CharactersOfParts.{numbers_in}
use Rattle.asn1_schema.specs.PiecesOfParts.{joined}

-- where the next fragment begins, after this number of fragments of 65,536 units, each after a length octet but the first
unfoldable pub after_fragments : ℕ → ℕ → ℕ → ℕ
after_fragments unit at zero = at
after_fragments unit at (suc times) = after_fragments unit (at + unit * 65536 + 8) times

-- units of `unit` bits each, within a list
pub record AreUnitsOf (unit : ℕ) (list : List Bool) (s : Span) : Type 0 where
  pub inside : s.at + s.count ≤ length list
  pub units : s.count % unit ≡ 0

pub record AreInside (unit : ℕ) (list : List Bool) (f : Fragments) : Type 0 where
  -- a length octet follows each fragment of 65,536 units
  pub whole : after_fragments unit f.at f.whole ≤ length list
  pub middle : AreUnitsOf unit list f.middle
  pub last : AreUnitsOf unit list f.last

-- the first `count` octets in fragments
abbrev pub octets_joined : List Bool → Fragments → ℕ → List ℕ
octets_joined list f count = numbers_in 8 count (joined 8 list f)
