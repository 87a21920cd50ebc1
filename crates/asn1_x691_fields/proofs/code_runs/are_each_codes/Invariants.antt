use Rattle.std.proofs.Common.{◌≡◌, ◌+◌, ◌*◌, drop}
use Rattle.asn1_bits.specs.Bits.{bits}
use Rattle.asn1_schema.specs.CharactersOfParts.{numbers_in}
use Rattle.asn1_x691_fields.specs.Characters.{AreCodes}
use Rattle.asn1_x691_fields.proofs.code_runs.are_each_codes.Given as goal

abbrev pub invariant-loop-left : goal.invariant-loop-left
invariant-loop-left l = record {
  index : l.next + l.alphabet.width * l.left ≡ l.at + l.alphabet.width * l.count;
  others : AreCodes l.alphabet (numbers_in l.alphabet.width l.left (drop l.next (bits l.octets)))
      → AreCodes l.alphabet (numbers_in l.alphabet.width l.count (drop l.at (bits l.octets)));
  not_before : AreCodes l.alphabet (numbers_in l.alphabet.width l.count (drop l.at (bits l.octets)))
      → AreCodes l.alphabet (numbers_in l.alphabet.width l.left (drop l.next (bits l.octets)));
}

abbrev pub decreases-loop-left : goal.decreases-loop-left
decreases-loop-left l = l.left
