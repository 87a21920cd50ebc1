use Rattle.std.proofs.Common.{ap, ◌∙◌, take}
use Rattle.asn1_bits.specs.Bits.{bits}
use Rattle.asn1_bits.proofs.RoomLemmas.{room-set}
use Rattle.asn1_bits.proofs.fixed_bit_string.FixedBitString.set.Goals as goal

pub invariant_of-self : goal.invariant_of-self
invariant_of-self g c =
    rw c.set_bit.ensures record {
      zeros =
          (room-set (bits c.args.self.now.octets) g.row.N c.args.i c.args.bit c.args.self.now.zeros c.requires).0;
    }

pub returns : goal.returns
returns g c = ap (take g.row.N) c.set_bit.ensures
    ∙ (room-set (bits c.args.self.now.octets) g.row.N c.args.i c.args.bit c.args.self.now.zeros c.requires).1
