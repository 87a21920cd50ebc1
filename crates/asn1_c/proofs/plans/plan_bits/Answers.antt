use Rattle.asn1_c.proofs.PlanLemmas.{bits_placed}
use Rattle.asn1_c.proofs.plans.plan_bits.Goals as goal

pub returns-clause-named : goal.returns-clause-named
returns-clause-named c =
    bits_placed c.args.source.now c.args.field.now c.args.count c.plan_placed.result c.plan_placed.ensures.bits
    c.plan_placed.ensures.lies
