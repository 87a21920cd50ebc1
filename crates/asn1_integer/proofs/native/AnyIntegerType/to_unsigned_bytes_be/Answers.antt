use Rattle.std.proofs.Common.{ℕ, ◌%◌, ◌^◌, ◌*◌, subst}
use Rattle.asn1_number.specs.Octets.{IsShortestUnsigned}
use Rattle.asn1_integer.proofs.WrapLemmas.{residue_spelled}
use Rattle.asn1_integer.proofs.native.AnyIntegerType.to_unsigned_bytes_be.Goals as goal

pub returns : goal.returns
returns g c =
    residue_spelled g.N.Native.IS_SIGNED g.N.Native.BYTE_WIDTH c.low_bits.result (g.N.Native.value c.args.self.now)
    c.unsigned_octets_of.result
    g.met.N.Native.sized c.low_bits.ensures.in_range c.low_bits.ensures.bits
    (subst (λ (k : ℕ). IsShortestUnsigned (c.low_bits.result % 2 ^ (8 * k)) c.unsigned_octets_of.result)
    c.BYTE_WIDTH.ensures c.unsigned_octets_of.ensures)
