use Rattle.asn1_c.proofs.WideLemmas.{past_i128, u64_in_i128}
use Rattle.asn1_c.proofs.wide_integers.asn1v_integer_to_u64.Goals as goal

pub returns-then-shortest-gt16-clause-done : goal.returns-then-shortest-gt16-clause-done
returns-then-shortest-gt16-clause-done c =
    λ some r. absurd (past_i128 _ _ (c.without_redundant_sign_octets-shortest.ensures.shortest some) c.if-shortest-gt16.true
    (u64_in_i128 _ r))
