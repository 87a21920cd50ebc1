use Rattle.std.proofs.Common.{rules, arith}
use Rattle.asn1_c.proofs.IntegerLemmas.{eight_at_most}
use Rattle.asn1_c.proofs.integers.asn1v_integer_from_i64.Goals as goal

pub returns-clause-most : goal.returns-clause-most
returns-clause-most c =
    let made = c.to_signed_bytes_be-octets.ensures in
    omega (arith, eight_at_most _ _ made.shortest made.in_range, c.len.ensures)

pub returns-clause-written : goal.returns-clause-written
returns-clause-written c = search rules

pub returns-clause-done : goal.returns-clause-done
returns-clause-done c = search rules
