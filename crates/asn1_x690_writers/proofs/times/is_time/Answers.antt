use Rattle.std.proofs.Common.{ℕ, List, refl, sym, subst}
use Rattle.asn1_schema.specs.Times.{IsTime}
use Rattle.asn1_x690_writers.specs.TextSteps.{plain_characters}
use Rattle.asn1_x690_writers.proofs.times.is_time.Goals as goal

pub returns-then-are_plain : goal.returns-then-are_plain
returns-then-are_plain c =
    let a = c.args in
    let same = plain_characters a.table.now a.source.now 8 a.text (c.if-are_plain.ensures refl) in (
      λ e. subst (λ (t : List ℕ). IsTime a.kind t) (sym same) (c.is_time_at.ensures.0 e),
      λ h. c.is_time_at.ensures.1 (subst (λ (t : List ℕ). IsTime a.kind t) same h),
    )
