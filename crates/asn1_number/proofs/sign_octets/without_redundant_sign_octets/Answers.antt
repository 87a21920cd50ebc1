use Rattle.std.proofs.Common.{arith, rules, ◌≡◌, ◌≤◌, ◌-◌, length, drop, take, sym, ◌∙◌}
use Rattle.std.proofs.lemmas.Bool.{false≢true}
use Rattle.std.proofs.lemmas.Grind.{common_steps}
use Rattle.asn1_number.specs.Laws.OctetLaws.{next_keeps, end_is_shortest}
use Rattle.asn1_number.proofs.sign_octets.without_redundant_sign_octets.Goals as goal

pub loop-rest-preserved : goal.loop-rest-preserved
loop-rest-preserved c =
    let long : 2 ≤ length c.loop-rest.rest.now = omega arith in
    let same : take (length c.loop-rest.rest.now - 1) (drop 1 c.loop-rest.rest.now) ≡ drop 1 c.loop-rest.rest.now =
    grind (arith, common_steps) in
    let kept =
    next_keeps c.args.octets.now c.loop-rest.rest.now _ c.loop-rest.invariant.end.0 same c.loop-rest.invariant.end.2
    long
    (c.repeats_sign.ensures.0 (search rules)) c.loop-rest.invariant.same in
    record { end = kept.0; same = kept.1 }

pub returns-in_default-clause-shortest : goal.returns-in_default-clause-shortest
returns-in_default-clause-shortest c = λ some.
    end_is_shortest c.args.octets.now c.loop-rest.rest.now c.loop-rest.invariant.end.0
    (λ i. omega (arith, c.type_inv.octets i))
    c.loop-rest.invariant.end.2 (c.loop-rest.invariant.same some) (λ long _. omega arith)

pub returns-then-not-repeats_sign-clause-shortest : goal.returns-then-not-repeats_sign-clause-shortest
returns-then-not-repeats_sign-clause-shortest c = λ some.
    end_is_shortest c.args.octets.now c.loop-rest.rest.now c.loop-rest.invariant.end.0
    (λ i. omega (arith, c.type_inv.octets i))
    c.loop-rest.invariant.end.2 (c.loop-rest.invariant.same some)
    (λ long r. false≢true (sym c.if-not-repeats_sign.true ∙ c.repeats_sign.ensures.1 r))
