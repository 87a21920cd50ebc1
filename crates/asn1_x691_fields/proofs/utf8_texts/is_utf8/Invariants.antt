use Rattle.std.proofs.Common.{◌≡◌, ◌+◌, ◌*◌, drop}
use Rattle.std.specs.Str.{IsUtf8}
use Rattle.asn1_bits.specs.Bits.{bits}
use Rattle.asn1_schema.specs.CharactersOfParts.{numbers_in}
use Rattle.asn1_x691_fields.specs.Octets.{octets_in}
use Rattle.asn1_x691_fields.proofs.utf8_texts.is_utf8.Given as goal

abbrev pub invariant-loop-left : goal.invariant-loop-left
invariant-loop-left l = record {
  place : l.at + 8 * l.left ≡ l.fn.span.at + l.fn.span.count;
  from_rest : IsUtf8 (numbers_in 8 l.left (drop l.at (bits l.message))) → IsUtf8 (octets_in (bits l.message) l.fn.span);
  of_rest : IsUtf8 (octets_in (bits l.message) l.fn.span) → IsUtf8 (numbers_in 8 l.left (drop l.at (bits l.message)));
}

abbrev pub decreases-loop-left : goal.decreases-loop-left
decreases-loop-left l = l.left
