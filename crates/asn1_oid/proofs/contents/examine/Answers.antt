use Rattle.std.proofs.Common.{◌<◌, Bool, length, leb, arith, subst, ap, sym, ◌∙◌, inl, inr}
use Rattle.std.specs.Prelude.{◌&&◌}
use Rattle.std.proofs.lemmas.Bool.{cases_lt}
use Rattle.std.proofs.lemmas.List.{nil_from_length}
use Rattle.asn1_oid.proofs.StepLemmas.{Walks, walks_more, reads_all, reads_large, reads_none, reads_empty, stops}
use Rattle.asn1_oid.proofs.contents.examine.Goals as goal

pub returns-in_default-clause-reading : goal.returns-in_default-clause-reading
returns-in_default-clause-reading g c =
    let octets = g.S.OctetSource.list c.args.source.now in
    elim (cases_lt 0 (length octets)) [
      | inl lt ↦ reads_none octets (c.in_default.ensures.none lt)
      | inr le ↦ reads_empty octets (nil_from_length octets (omega arith))
    ]

pub returns-in_default-subidentifier_at-clause-reading : goal.returns-in_default-subidentifier_at-clause-reading
returns-in_default-subidentifier_at-clause-reading g c =
    let octets = g.S.OctetSource.list c.args.source.now in
    let lt : c.loop-at.at < length octets = omega (arith, c.count-count.ensures.count) in
    stops octets c.loop-at.at c.loop-at.fit c.loop-at.invariant (c.in_default-subidentifier_at.ensures.none lt)

pub loop-at-preserved-then-fit : goal.loop-at-preserved-then-fit
loop-at-preserved-then-fit g c =
    let octets = g.S.OctetSource.list c.args.source.now in
    let told = c.in-Some-subidentifier_at.number in
    let next = c.in-Some-subidentifier_at.next in
    let more =
    walks_more octets c.loop-at.at told next c.loop-at.fit c.loop-at.invariant
    c.in-Some-subidentifier_at.ensures.some in
    subst (λ (b : Bool). Walks octets next (b && leb told 4294967295)) c.if-fit.true more

pub loop-at-preserved : goal.loop-at-preserved
loop-at-preserved g c =
    let octets = g.S.OctetSource.list c.args.source.now in
    let told = c.in-Some-subidentifier_at.number in
    let next = c.in-Some-subidentifier_at.next in
    let more =
    walks_more octets c.loop-at.at told next c.loop-at.fit c.loop-at.invariant
    c.in-Some-subidentifier_at.ensures.some in
    subst (λ (b : Bool). Walks octets next b)
    (ap (λ (b : Bool). b && leb told 4294967295) c.if-fit.false ∙ sym c.if-fit.false) more

pub returns-then-fit-2-clause-reading : goal.returns-then-fit-2-clause-reading
returns-then-fit-2-clause-reading g c =
    let octets = g.S.OctetSource.list c.args.source.now in
    reads_all octets c.loop-at.at (subst (λ (b : Bool). Walks octets c.loop-at.at b) c.if-fit-2.true
    c.loop-at.invariant) (omega (arith, c.count-count.ensures.count))

pub returns-else-fit-2-clause-reading : goal.returns-else-fit-2-clause-reading
returns-else-fit-2-clause-reading g c =
    let octets = g.S.OctetSource.list c.args.source.now in
    reads_large octets c.loop-at.at
    (subst (λ (b : Bool). Walks octets c.loop-at.at b) c.if-fit-2.false c.loop-at.invariant)
    (omega (arith, c.count-count.ensures.count))
