use Rattle.std.proofs.Common.{sym, subst}
use Rattle.std.specs.Prelude.{IfErr}
use Rattle.asn1_values.specs.Plain.{plain_shape}
use Rattle.asn1_c.specs.Writing.{IsWrong}
use Rattle.asn1_c.proofs.plans.plan_of.Goals as goal

pub returns-in-Number-clause-wrong : goal.returns-in-Number-clause-wrong
returns-in-Number-clause-wrong c =
    subst (λ s. IfErr c.plan_number.result (IsWrong c.args.source.now (plain_shape s) c.args.field.now))
    (sym c.in-Number.is) (c.plan_number.ensures.wrong c.args.source.now)

pub returns-in-Character-clause-wrong : goal.returns-in-Character-clause-wrong
returns-in-Character-clause-wrong c =
    subst (λ s. IfErr c.plan_character.result (IsWrong c.args.source.now (plain_shape s) c.args.field.now))
    (sym c.in-Character.is) (c.plan_character.ensures.wrong c.args.source.now)
