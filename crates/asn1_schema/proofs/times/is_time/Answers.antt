use Rattle.std.proofs.Common.{sym, subst}
use Rattle.std.specs.Bool.{Decides}
use Rattle.asn1_schema.specs.Times.{IsTime}
use Rattle.asn1_schema.specs.declared.tables.TimeKind.{TimeKind}
use Rattle.asn1_schema.proofs.times.is_time.Goals as goal

pub returns-in-Utc : goal.returns-in-Utc
returns-in-Utc g c =
    subst (λ (k : TimeKind). Decides c.is_utc_time.result (IsTime k (g.S.NumberSource.list c.args.source.now))) (sym c.in-Utc.is)
    c.is_utc_time.ensures

pub returns-in-Generalized : goal.returns-in-Generalized
returns-in-Generalized g c =
    subst (λ (k : TimeKind). Decides c.is_generalized_time.result (IsTime k (g.S.NumberSource.list c.args.source.now)))
    (sym c.in-Generalized.is) c.is_generalized_time.ensures
