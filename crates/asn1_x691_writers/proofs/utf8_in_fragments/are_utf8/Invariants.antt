use Rattle.std.proofs.Common.{◌-◌, ◌*◌, ◌≤◌, drop}
use Rattle.std.specs.Str.{IsUtf8}
use Rattle.asn1_bits.specs.Bits.{bits}
use Rattle.asn1_schema.specs.CharactersOfParts.{numbers_in}
use Rattle.asn1_x691_writers.specs.Joined.{bits_in}
use Rattle.asn1_x691_writers.proofs.utf8_in_fragments.are_utf8.Given as goal

abbrev pub invariant-loop-at : goal.invariant-loop-at
invariant-loop-at l = record {
  few : l.at ≤ l.count;
  from_rest : IsUtf8 (numbers_in 8 (l.count - l.at) (drop (8 * l.at) (bits_in (bits l.source) l.joined)))
      → IsUtf8 (numbers_in 8 l.count (bits_in (bits l.source) l.joined));
  of_rest : IsUtf8 (numbers_in 8 l.count (bits_in (bits l.source) l.joined))
      → IsUtf8 (numbers_in 8 (l.count - l.at) (drop (8 * l.at) (bits_in (bits l.source) l.joined)));
}

abbrev pub decreases-loop-at : goal.decreases-loop-at
decreases-loop-at l = l.count - l.at
