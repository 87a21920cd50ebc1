use Rattle.std.proofs.Common.{rules, arith, ◌≡◌, ◌≤◌, length, get_or, refl}
use Rattle.asn1_number.specs.Laws.OctetLaws.{unsigned_after_zero, unsigned_as_it_is}
use Rattle.asn1_number.proofs.sign_octets.leading_sign_octets.Goals as goal

pub returns-in-0-clause-shortest : goal.returns-in-0-clause-shortest
returns-in-0-clause-shortest c = λ n s.
    let long : 2 ≤ length c.args.octets.now = omega arith in
    let zero : get_or c.args.octets.now 0 0 ≡ 0 = omega arith in
    unsigned_after_zero n c.args.octets.now _ s long zero refl

pub returns-in_default-clause-shortest : goal.returns-in_default-clause-shortest
returns-in_default-clause-shortest c = λ n s. unsigned_as_it_is n c.args.octets.now s (λ long _. omega arith)

pub returns-in_default-2-clause-shortest : goal.returns-in_default-2-clause-shortest
returns-in_default-2-clause-shortest c = λ n s. unsigned_as_it_is n c.args.octets.now s (λ long zero. search rules)
