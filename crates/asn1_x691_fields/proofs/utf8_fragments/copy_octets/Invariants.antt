use Rattle.std.proofs.Common.{◌≡◌, ◌*◌, take, drop}
use Rattle.asn1_bits.specs.Bits.{bits}
use Rattle.asn1_schema.specs.CharactersOfParts.{numbers_in}
use Rattle.asn1_schema.specs.PiecesOfParts.{joined}
use Rattle.asn1_x691_fields.proofs.utf8_fragments.copy_octets.Given as goal

abbrev pub invariant-loop-i : goal.invariant-loop-i
invariant-loop-i l = take l.i l.octets ≡ numbers_in 8 l.i (drop (8 * l.at) (joined 8 (bits l.source.octets.now) l.source.fragments))
