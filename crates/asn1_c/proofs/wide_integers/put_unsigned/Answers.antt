use Rattle.std.proofs.Common.{arith}
use Rattle.asn1_c.proofs.WideLemmas.{one_more_at_most}
use Rattle.asn1_c.proofs.wide_integers.put_unsigned.Goals as goal

pub returns-clause-most : goal.returns-clause-most
returns-clause-most c =
    let made = c.to_signed_bytes_be.ensures in
    omega (arith, one_more_at_most 16 _ _ (omega arith) made.shortest made.in_range, c.put_octets.ensures.count)
