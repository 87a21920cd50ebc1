use Rattle.std.proofs.Common.{arith}
use Rattle.asn1_oid.proofs.WritingLemmas.{octets_more}
use Rattle.asn1_oid.proofs.oid_contents.octets_of_arcs.Goals as goal

pub loop-arc-preserved : goal.loop-arc-preserved
loop-arc-preserved c =
    let so_far = c.loop-arc.invariant in
    let few = c.octet_count.ensures.few in (
      octets_more c.args.arcs.now c.loop-arc.arc-index c.from.result c.loop-arc.len c.octet_count.result
          c.loop-arc-test.true c.from.ensures so_far.0 c.octet_count.ensures.digits,
      omega arith,
    )
