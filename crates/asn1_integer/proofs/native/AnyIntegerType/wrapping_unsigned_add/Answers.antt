use Rattle.asn1_integer.proofs.WrapLemmas.{sum_at_bits, wraps_some}
use Rattle.asn1_integer.proofs.native.AnyIntegerType.wrapping_unsigned_add.Goals as goal

pub returns : goal.returns
returns g c =
    wraps_some g.N.Native.IS_SIGNED g.N.Native.BYTE_WIDTH g.N.Native.value (g.N.Native.value c.args.self)
    (g.N.Native.pair_value c.args.other) c.from_low_bits.result
    (sum_at_bits g.N.Native.IS_SIGNED g.N.Native.BYTE_WIDTH c.low_bits.result c.low_bits_of_pair.result
    (g.N.Native.value c.args.self) (g.N.Native.pair_value c.args.other) (g.N.Native.value c.from_low_bits.result)
    g.met.N.Native.sized c.low_bits.ensures.in_range c.low_bits.ensures.bits c.low_bits_of_pair.ensures
    c.from_low_bits.ensures)
