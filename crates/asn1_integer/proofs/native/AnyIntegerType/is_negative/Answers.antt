use Rattle.std.proofs.Common.{◌≡◌, ◌<ℤ◌, ◌↔◌, ◌&&◌, ◌^◌, pos, IsTrue, sym, ap, subst, ◌∙◌}
use lib.Dec.{leb}
use Rattle.asn1_integer.proofs.NativeLemmas.{bits_of_native, below_zero_by_bits}
use Rattle.asn1_integer.proofs.native.AnyIntegerType.is_negative.Goals as goal

pub returns : goal.returns
returns g c =
    let bits =
    bits_of_native g.N.Native.IS_SIGNED g.N.Native.BYTE_WIDTH c.low_bits.result (g.N.Native.value c.args.self.now)
    g.met.N.Native.sized c.low_bits.ensures.in_range c.low_bits.ensures.bits in
    let sign : c.is_below_zero.result ≡ (g.N.Native.IS_SIGNED && leb (2 ^ 127) c.low_bits.result) =
    c.is_below_zero.ensures ∙ ap (λ s. s && leb (2 ^ 127) c.low_bits.result) c.IS_SIGNED.ensures in
    subst (λ t. IsTrue t ↔ (g.N.Native.value c.args.self.now <ℤ pos 0)) (sym sign)
    (below_zero_by_bits g.N.Native.IS_SIGNED (g.N.Native.value c.args.self.now) c.low_bits.result bits)
