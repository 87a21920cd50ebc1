use Rattle.std.proofs.Common.{arith}
use Rattle.asn1_c.proofs.IntegerFieldLemmas.{sixteen_at_most}
use Rattle.asn1_c.proofs.wide_integers.put_signed.Goals as goal

pub returns-clause-most : goal.returns-clause-most
returns-clause-most c =
    let made = c.to_signed_bytes_be.ensures in
    omega (arith, sixteen_at_most _ _ made.shortest made.in_range, c.put_octets.ensures.count)
