use Rattle.std.proofs.Common.{arith}
use Rattle.asn1_bits.proofs.WindowLemmas.{loaded}
use Rattle.asn1_bits.proofs.reads.load.Goals as goal

pub returns : goal.returns
returns c =
    loaded c.args.octets.now c.eight.result c.args.first c.from_be_bytes.result
    (λ i. omega (arith, c.type_inv.octets i)) c.requires c.eight.ensures c.from_be_bytes.ensures
