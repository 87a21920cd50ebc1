use Rattle.std.proofs.Common.{rules, arith}
use Rattle.asn1_c.proofs.WideLemmas.{one_more_at_most}
use Rattle.asn1_c.proofs.wide_integers.asn1v_integer_from_u64.Goals as goal

pub returns-clause-most : goal.returns-clause-most
returns-clause-most c =
    let made = c.to_signed_bytes_be-shortest.ensures in
    omega (arith, one_more_at_most 8 _ _ (omega arith) made.shortest made.in_range, c.put_octets.ensures.count)

pub returns-clause-written : goal.returns-clause-written
returns-clause-written c = search rules

pub returns-clause-count : goal.returns-clause-count
returns-clause-count c = search rules
