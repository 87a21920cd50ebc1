use Rattle.asn1_c.proofs.PlanLemmas.{octets_placed}
use Rattle.asn1_c.proofs.plans.plan_octets.Goals as goal

pub returns-clause-named : goal.returns-clause-named
returns-clause-named c =
    octets_placed c.args.source.now c.args.field.now c.args.count c.plan_placed.result c.plan_placed.ensures.bits
    c.plan_placed.ensures.lies
