use Rattle.asn1_integer.proofs.NativeLemmas.{bits_at}
use Rattle.asn1_integer.proofs.native.AnyIntegerType.to_i128.Goals as goal

pub returns : goal.returns
returns g c =
    c.i128_of.ensures.some (g.N.Native.value c.args.self.now)
    (bits_at c.IS_SIGNED.result g.N.Native.IS_SIGNED g.N.Native.BYTE_WIDTH c.low_bits.result
    (g.N.Native.value c.args.self.now) c.IS_SIGNED.ensures g.met.N.Native.sized c.low_bits.ensures.in_range
    c.low_bits.ensures.bits)
