use Rattle.std.proofs.Common.{arith}
use Rattle.asn1_bits.proofs.EightLemmas.{loaded_native}
use Rattle.asn1_bits.proofs.target.stores.load_native.Goals as goal

pub returns : goal.returns
returns c =
    loaded_native c.args.octets.now c.eight.result c.args.first c.from_ne_bytes.result
    (λ i. omega (arith, c.type_inv.octets i)) c.requires c.eight.ensures c.from_ne_bytes.ensures
