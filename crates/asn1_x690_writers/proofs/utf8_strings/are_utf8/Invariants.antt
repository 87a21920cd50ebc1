use Rattle.std.proofs.Common.{◌≡◌, ◌+◌, ◌-◌, ◌*◌, ◌≤◌, length, drop}
use Rattle.std.specs.Str.{IsUtf8}
use Rattle.asn1_bits.specs.Bits.{bits}
use Rattle.asn1_schema.specs.CharactersOfParts.{numbers_in}
use Rattle.asn1_schema.specs.PiecesOfParts.{joined}
use Rattle.asn1_x690_writers.specs.Fragments.{bits_left}
use Rattle.asn1_x690_writers.proofs.utf8_strings.are_utf8.Given as goal

abbrev pub invariant-loop-at : goal.invariant-loop-at
invariant-loop-at l = record {
  few : l.at ≤ l.count;
  inside : l.rest.head.at + l.rest.head.count ≤ 8 * length l.source;
  same : bits_left 8 (bits l.source) l.rest ≡ drop (8 * l.at) (joined 8 (bits l.source) l.fn.fragments);
  from_rest : IsUtf8 (numbers_in 8 (l.count - l.at) (drop (8 * l.at) (joined 8 (bits l.source) l.fn.fragments)))
      → IsUtf8 (numbers_in 8 l.count (joined 8 (bits l.source) l.fn.fragments));
  of_rest : IsUtf8 (numbers_in 8 l.count (joined 8 (bits l.source) l.fn.fragments))
      → IsUtf8 (numbers_in 8 (l.count - l.at) (drop (8 * l.at) (joined 8 (bits l.source) l.fn.fragments)));
}

abbrev pub decreases-loop-at : goal.decreases-loop-at
decreases-loop-at l = l.count - l.at
