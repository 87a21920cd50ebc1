use Rattle.std.proofs.Common.{rules, sym, subst}
use Rattle.asn1_number.specs.Octets.{IsShortest}
use Rattle.asn1_integer.proofs.WrapLemmas.{read_from_shortest, none_from_shortest}
use Rattle.asn1_integer.proofs.native.AnyIntegerType.from_integer.Goals as goal

pub returns-in-Ok : goal.returns-in-Ok
returns-in-Ok g c =
    read_from_shortest _ _ _ _ _ c.args.number.now _ c.as_ref.result.now c.IS_SIGNED.ensures c.BYTE_WIDTH.ensures
    g.met.N.Native.sized
    (subst (IsShortest c.args.number.now) (sym c.as_ref.ensures) c.signed_octets-octets.ensures) c.in-Ok.ensures
    c.from_low_bits.ensures

pub returns-in-Err : goal.returns-in-Err
returns-in-Err g c =
    none_from_shortest _ _ _ _ c.args.number.now c.as_ref.result.now c.in-Err.field-0 c.IS_SIGNED.ensures
    c.BYTE_WIDTH.ensures g.met.N.Native.sized
    (subst (IsShortest c.args.number.now) (sym c.as_ref.ensures) c.signed_octets-octets.ensures) c.in-Err.ensures

pub returns-in-Some : goal.returns-in-Some
returns-in-Some g c = search rules
