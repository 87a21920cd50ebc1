use Rattle.std.proofs.Common.{◌-◌, ◌*◌, ◌≤◌, drop}
use Rattle.std.specs.Str.{IsUtf8}
use Rattle.asn1_bits.specs.Bits.{bits}
use Rattle.asn1_schema.specs.CharactersOfParts.{numbers_in}
use Rattle.asn1_schema.specs.PiecesOfParts.{joined}
use Rattle.asn1_x691_fields.proofs.utf8_fragments.are_utf8.Given as goal

abbrev pub invariant-loop-at : goal.invariant-loop-at
invariant-loop-at l = record {
  few : l.at ≤ l.source.count;
  from_rest : IsUtf8 (numbers_in 8 (l.source.count - l.at) (drop (8 * l.at) (joined 8 (bits l.source.octets.now) l.source.fragments)))
      → IsUtf8 (numbers_in 8 l.source.count (joined 8 (bits l.source.octets.now) l.source.fragments));
  of_rest : IsUtf8 (numbers_in 8 l.source.count (joined 8 (bits l.source.octets.now) l.source.fragments))
      → IsUtf8 (numbers_in 8 (l.source.count - l.at) (drop (8 * l.at) (joined 8 (bits l.source.octets.now) l.source.fragments)));
}

abbrev pub decreases-loop-at : goal.decreases-loop-at
decreases-loop-at l = l.source.count - l.at
