use Rattle.std.proofs.Common.{rules}
use Rattle.asn1_integer.specs.Calls.{own_reading}
use Rattle.asn1_integer.proofs.NativeLemmas.{read_back_at}
use Rattle.asn1_integer.proofs.native.AnyIntegerType.try_from_bytes.Goals as goal

pub returns : goal.returns
returns g c =
    read_back_at (λ kind. own_reading kind c.args.octets.now) _ _ _ _ _ _ c.IS_SIGNED.ensures c.BYTE_WIDTH.ensures
    g.met.N.Native.sized c.in_ok-bits.ensures c.from_low_bits.ensures

pub returns-in_err-bits : goal.returns-in_err-bits
returns-in_err-bits g c = search rules
