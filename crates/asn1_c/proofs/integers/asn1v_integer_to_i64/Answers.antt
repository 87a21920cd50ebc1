use Rattle.std.proofs.Common.{rules, arith}
use Rattle.asn1_c.proofs.IntegerLemmas.{no_more_than_eight}
use Rattle.asn1_c.proofs.integers.asn1v_integer_to_i64.Goals as goal

pub returns-then-shortest-gt16-clause-done : goal.returns-then-shortest-gt16-clause-done
returns-then-shortest-gt16-clause-done c =
    λ some r. absurd (no_more_than_eight _ _ (c.without_redundant_sign_octets-shortest.ensures.shortest some)
    (omega arith) r)

pub returns-in-Err-clause-empty : goal.returns-in-Err-clause-empty
returns-in-Err-clause-empty c = search rules

pub returns-in-Err-clause-overflow : goal.returns-in-Err-clause-overflow
returns-in-Err-clause-overflow c = search rules
