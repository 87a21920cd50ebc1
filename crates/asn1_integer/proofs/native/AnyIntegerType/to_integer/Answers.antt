use Rattle.std.proofs.Common.{◌≡◌, ◌≤◌, ◌^◌, IfOk, subst, ap, ◌∙◌, to_z, of_z, to_z-of_z}
use Rattle.std.specs.Int.{w128}
use Rattle.asn1_integer.proofs.NativeLemmas.{fits_signed, bits_at, bits_of_native, great_is_unsigned, great_wants_memory, on_err}
use Rattle.asn1_integer.proofs.native.AnyIntegerType.to_integer.Goals as goal

pub returns-in-Some-clause-value : goal.returns-in-Some-clause-value
returns-in-Some-clause-value g c =
    let bits =
    bits_at c.IS_SIGNED.result g.N.Native.IS_SIGNED g.N.Native.BYTE_WIDTH c.low_bits-bits.result
    (g.N.Native.value c.args.self) c.IS_SIGNED.ensures g.met.N.Native.sized c.low_bits-bits.ensures.in_range
    c.low_bits-bits.ensures.bits in
    let given = c.in-Some.ensures.some (g.N.Native.value c.args.self) bits in
    c.from.ensures ∙ (ap (λ z. to_z w128 (of_z w128 z)) given.1
    ∙ to_z-of_z (fits_signed (g.N.Native.value c.args.self) given.0))

pub returns-in-None-clause-value : goal.returns-in-None-clause-value
returns-in-None-clause-value g c =
    let bits =
    bits_at c.IS_SIGNED.result g.N.Native.IS_SIGNED g.N.Native.BYTE_WIDTH c.low_bits-bits.result
    (g.N.Native.value c.args.self) c.IS_SIGNED.ensures g.met.N.Native.sized c.low_bits-bits.ensures.in_range
    c.low_bits-bits.ensures.bits in
    subst (λ z. IfOk c.from_u128.result (λ n. n ≡ z))
    (great_is_unsigned c.IS_SIGNED.result (g.N.Native.value c.args.self) c.low_bits-bits.result bits
    (c.in-None.ensures.some (g.N.Native.value c.args.self) bits)) c.from_u128.ensures.value

pub returns-in-None-clause-memory : goal.returns-in-None-clause-memory
returns-in-None-clause-memory g c =
    let bits =
    bits_at c.IS_SIGNED.result g.N.Native.IS_SIGNED g.N.Native.BYTE_WIDTH c.low_bits-bits.result
    (g.N.Native.value c.args.self) c.IS_SIGNED.ensures g.met.N.Native.sized c.low_bits-bits.ensures.in_range
    c.low_bits-bits.ensures.bits in
    let own =
    bits_of_native g.N.Native.IS_SIGNED g.N.Native.BYTE_WIDTH c.low_bits-bits.result (g.N.Native.value c.args.self)
    g.met.N.Native.sized c.low_bits-bits.ensures.in_range c.low_bits-bits.ensures.bits in
    on_err c.from_u128.result (2 ^ 127 ≤ c.low_bits-bits.result) _
    (great_wants_memory g.N.Native.IS_SIGNED g.N.Native.BYTE_WIDTH (g.N.Native.value c.args.self) c.low_bits-bits.result
    own (c.in-None.ensures.some (g.N.Native.value c.args.self) bits)) c.from_u128.ensures.memory
