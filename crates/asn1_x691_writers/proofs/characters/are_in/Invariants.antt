use Rattle.asn1_bits.specs.Bits.{bits}
use Rattle.asn1_schema.specs.CharactersOfParts.{characters_of}
use Rattle.asn1_x691_writers.specs.Texts.{AreIn}
use Rattle.asn1_x691_writers.proofs.characters.are_in.Given as goal

abbrev pub invariant-loop-left : goal.invariant-loop-left
invariant-loop-left l = record {
  others : AreIn l.alphabet.ranges.now (characters_of l.table (bits l.source) l.left)
      → AreIn l.alphabet.ranges.now (characters_of l.table (bits l.source) l.initial.left);
  not_before : AreIn l.alphabet.ranges.now (characters_of l.table (bits l.source) l.initial.left)
      → AreIn l.alphabet.ranges.now (characters_of l.table (bits l.source) l.left);
}

abbrev pub decreases-loop-left : goal.decreases-loop-left
decreases-loop-left l = l.left.count
