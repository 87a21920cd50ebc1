use Rattle.std.proofs.Common.{rules, arith}
use Rattle.asn1_oid.proofs.StepLemmas.{gathers_all}
use Rattle.asn1_oid.proofs.contents.arcs_in.Goals as goal

pub returns-clause-arcs : goal.returns-clause-arcs
returns-clause-arcs g c =
    gathers_all (g.S.OctetSource.list c.args.source.now) c.loop-at.at c.loop-at.arcs.items
    c.loop-at.invariant.gathered (omega (arith, c.count-count.ensures.count, c.loop-at-test.false))

pub loop-at-init : goal.loop-at-init
loop-at-init g c = search rules
