use Rattle.std.proofs.Common.{◌≡◌, sym, ap, subst, ◌∙◌, of_z, to_z, to_z-of_z}
use Rattle.std.specs.Int.{w128}
use Rattle.asn1_number.specs.Readings.{IsInRange, FitsI128}
use Rattle.asn1_integer.specs.NativeBits.{native_kind}
use Rattle.asn1_integer.proofs.NativeLemmas.{bits_at, same_number, fitted, fits_signed}
use Rattle.asn1_integer.proofs.native.AnyIntegerType.try_from_i128.Goals as goal

pub returns-in_default : goal.returns-in_default
returns-in_default g c = λ r.
    let bits =
    bits_at c.IS_SIGNED.result g.N.Native.IS_SIGNED g.N.Native.BYTE_WIDTH c.low_bits.result
    (g.N.Native.value c.from_low_bits-wrapped.result) c.IS_SIGNED.ensures g.met.N.Native.sized
    c.low_bits.ensures.in_range c.low_bits.ensures.bits in
    let same =
    same_number g.N.Native.IS_SIGNED g.N.Native.BYTE_WIDTH c.cast_unsigned.result c.args.number
    (g.N.Native.value c.from_low_bits-wrapped.result) g.met.N.Native.sized
    (c.cast_unsigned.ensures ∙ ap (of_z w128) (to_z-of_z c.ranges.number)) c.from_low_bits-wrapped.ensures r in
    c.in_default.ensures.some (g.N.Native.value c.from_low_bits-wrapped.result) bits
    (subst FitsI128 (sym same) (fitted c.args.number c.ranges.number))

pub returns-then-same-number : goal.returns-then-same-number
returns-then-same-number g c =
    let bits =
    bits_at c.IS_SIGNED.result g.N.Native.IS_SIGNED g.N.Native.BYTE_WIDTH c.low_bits.result
    (g.N.Native.value c.from_low_bits-wrapped.result) c.IS_SIGNED.ensures g.met.N.Native.sized
    c.low_bits.ensures.in_range c.low_bits.ensures.bits in
    let given = c.in-Some.ensures.some (g.N.Native.value c.from_low_bits-wrapped.result) bits in
    let value : g.N.Native.value c.from_low_bits-wrapped.result ≡ c.args.number =
    sym (to_z-of_z (fits_signed (g.N.Native.value c.from_low_bits-wrapped.result) given.0))
    ∙ (ap (to_z w128) (sym (ap (of_z w128) given.1) ∙ c.if-same-number.true) ∙ to_z-of_z c.ranges.number) in (
      value,
      subst (IsInRange (native_kind g.N.Native.IS_SIGNED g.N.Native.BYTE_WIDTH)) value
          c.low_bits.ensures.in_range,
    )

pub returns-else-same-number : goal.returns-else-same-number
returns-else-same-number g c = λ r.
    let bits =
    bits_at c.IS_SIGNED.result g.N.Native.IS_SIGNED g.N.Native.BYTE_WIDTH c.low_bits.result
    (g.N.Native.value c.from_low_bits-wrapped.result) c.IS_SIGNED.ensures g.met.N.Native.sized
    c.low_bits.ensures.in_range c.low_bits.ensures.bits in
    let same =
    same_number g.N.Native.IS_SIGNED g.N.Native.BYTE_WIDTH c.cast_unsigned.result c.args.number
    (g.N.Native.value c.from_low_bits-wrapped.result) g.met.N.Native.sized
    (c.cast_unsigned.ensures ∙ ap (of_z w128) (to_z-of_z c.ranges.number)) c.from_low_bits-wrapped.ensures r in
    c.if-same-number.false (ap (of_z w128)
    ((c.in-Some.ensures.some (g.N.Native.value c.from_low_bits-wrapped.result) bits).1 ∙ same))
