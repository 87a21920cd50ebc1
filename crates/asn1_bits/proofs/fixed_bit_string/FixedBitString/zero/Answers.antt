use Rattle.std.proofs.Common.{◌*◌, take, ap, ◌∙◌, arith}
use Rattle.asn1_bits.proofs.BufferLemmas.{bits-zeros}
use Rattle.asn1_bits.proofs.RoomLemmas.{room-zeros}
use Rattle.asn1_bits.proofs.fixed_bit_string.FixedBitString.zero.Goals as goal

pub invariant_of-result : goal.invariant_of-result
invariant_of-result g c = rw bits-zeros record { zeros = (room-zeros g.row.N (8 * g.row.N) (omega arith)).0 }

pub returns : goal.returns
returns g c = ap (take g.row.N) (bits-zeros g.row.N) ∙ (room-zeros g.row.N (8 * g.row.N) (omega arith)).1
