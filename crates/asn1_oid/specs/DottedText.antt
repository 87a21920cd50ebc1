-- The dotted text of identifiers, as it is read.
use Rattle.std.specs.Prelude.{◌≡◌, ℕ, List}
use Rattle.asn1_oid.specs.Arcs.{IsValidArcs, dotted}
use Rattle.asn1_oid.specs.Contents.{FitU32}

-- the octets are the dotted text of an identifier, whose arcs all fit 32 bits
pub record IsDottedText (arcs text : List ℕ) : Type 0 where
  pub valid : IsValidArcs arcs
  pub fit : FitU32 arcs
  pub spelled : dotted arcs ≡ text
