use Rattle.std.proofs.Common.{◌≡◌, ◌+◌}
use Rattle.asn1_bits.specs.Bits.{bits}
use Rattle.asn1_schema.specs.PiecesOfParts.{bits_at, bits_of, signed_number}
use Rattle.asn1_x691_writers.proofs.held.strip_signs.Given as goal

abbrev pub invariant-loop-count : goal.invariant-loop-count
invariant-loop-count l = record {
  end : l.at + l.count ≡ l.fn.span.at + l.fn.span.count;
  same : signed_number (bits_at (bits l.source) l.at l.count) ≡ signed_number (bits_of (bits l.source) l.fn.span);
}

abbrev pub decreases-loop-count : goal.decreases-loop-count
decreases-loop-count l = l.count
