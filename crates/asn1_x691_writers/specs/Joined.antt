-- Units in fragments, as one list of bits.
use Rattle.std.specs.Prelude.{◌+◌, ◌*◌, ◌<◌, ◌≤◌, Bool, List, ◌++◌, length}
use Rattle.asn1_schema.specs.PiecesOfParts.{bits_of, whole_fragments}
use Rattle.asn1_x691_writers.specs.declared.joined.Joined.{Joined}

-- the fragments of 65,536 units, and the bits after them
abbrev pub bits_in : List Bool → Joined → List Bool
bits_in list j = whole_fragments j.unit list j.at j.whole ++ (bits_of list j.part ++ (bits_of list j.middle ++ bits_of list j.last))

-- all of them are within the list
pub record IsInside (list : List Bool) (j : Joined) : Type 0 where
  pub some : 0 < j.unit
  pub few : j.unit ≤ 8
  pub whole : j.at + (j.unit * 65536 + 8) * j.whole ≤ length list
  pub part : j.part.at + j.part.count ≤ length list
  pub middle : j.middle.at + j.middle.count ≤ length list
  pub last : j.last.at + j.last.count ≤ length list
