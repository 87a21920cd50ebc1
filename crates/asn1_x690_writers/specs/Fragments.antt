-- Bits in fragments that are left.
use Rattle.std.specs.Prelude.{ℕ, Bool, List, ◌++◌}
use Rattle.asn1_schema.specs.PiecesOfParts.{bits_of, joined}
use Rattle.asn1_x690_writers.specs.declared.fragments.Rest.{Rest}

-- those of the head, and those in the fragments after it
abbrev pub bits_left : ℕ → List Bool → Rest → List Bool
bits_left unit list r = bits_of list r.head ++ joined unit list r.others
