use Rattle.std.proofs.Common.{◌≡◌, ◌+◌, ◌*◌, drop}
use Rattle.asn1_bits.specs.Bits.{bits}
use Rattle.asn1_schema.specs.CharactersOfParts.{numbers_in}
use Rattle.asn1_x690.specs.Leaves.{AreIn}
use Rattle.asn1_x690_leaves.proofs.texts.are_numbers_in.Given as goal

abbrev pub invariant-loop-left : goal.invariant-loop-left
invariant-loop-left l = record {
  index : l.at + l.fn.text.width * l.left ≡ l.fn.text.at + l.fn.text.width * l.fn.text.count;
  yes : AreIn l.ranges (numbers_in l.fn.text.width l.left (drop l.at (bits l.octets)))
      → AreIn l.ranges (numbers_in l.fn.text.width l.fn.text.count (drop l.fn.text.at (bits l.octets)));
  no : AreIn l.ranges (numbers_in l.fn.text.width l.fn.text.count (drop l.fn.text.at (bits l.octets)))
      → AreIn l.ranges (numbers_in l.fn.text.width l.left (drop l.at (bits l.octets)));
}

abbrev pub decreases-loop-left : goal.decreases-loop-left
decreases-loop-left l = l.left
