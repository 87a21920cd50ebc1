use Rattle.asn1_bits.specs.Bits.{bits}
use Rattle.asn1_schema.specs.CharactersOfParts.{characters_of}
use Rattle.asn1_x690.specs.Leaves.{AreIn}
use Rattle.asn1_x690_writers.specs.Texts.{AreWithin}
use Rattle.asn1_x690_writers.proofs.texts.are_all_permitted.Given as goal

abbrev pub invariant-loop-left : goal.invariant-loop-left
invariant-loop-left l = record {
  alphabet : AreIn l.ranges (characters_of l.table (bits l.source) l.left)
      → AreIn l.ranges (characters_of l.table (bits l.source) l.initial.left);
  below : AreWithin l.width (characters_of l.table (bits l.source) l.left)
      → AreWithin l.width (characters_of l.table (bits l.source) l.initial.left);
  others_in : AreIn l.ranges (characters_of l.table (bits l.source) l.initial.left)
      → AreIn l.ranges (characters_of l.table (bits l.source) l.left);
  others_below : AreWithin l.width (characters_of l.table (bits l.source) l.initial.left)
      → AreWithin l.width (characters_of l.table (bits l.source) l.left);
}

abbrev pub decreases-loop-left : goal.decreases-loop-left
decreases-loop-left l = l.left.count
