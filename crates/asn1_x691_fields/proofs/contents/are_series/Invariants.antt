use Rattle.std.proofs.Common.{◌≡◌, ◌+◌, ◌*◌, false, drop}
use Rattle.asn1_bits.specs.Bits.{bits}
use Rattle.asn1_schema.specs.CharactersOfParts.{numbers_in}
use Rattle.asn1_x691_fields.specs.Octets.{octets_in, are_series}
use Rattle.asn1_x691_fields.proofs.contents.are_series.Given as goal

abbrev pub invariant-loop-left : goal.invariant-loop-left
invariant-loop-left l = record {
  same : are_series false (octets_in (bits l.message) l.fn.span) ≡ are_series l.begun (numbers_in 8 l.left (drop l.at (bits l.message)));
  place : l.at + 8 * l.left ≡ l.fn.span.at + l.fn.span.count;
}

abbrev pub decreases-loop-left : goal.decreases-loop-left
decreases-loop-left l = l.left
