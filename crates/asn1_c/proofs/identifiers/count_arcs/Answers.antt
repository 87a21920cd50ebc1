use Rattle.std.proofs.Common.{arith}
use Rattle.asn1_c.proofs.ArcLemmas.{counted_none, counted_on, counted_end, counted_all, most_next}
use Rattle.asn1_c.proofs.identifiers.count_arcs.Goals as goal
use Rattle.asn1_c.proofs.identifiers.count_arcs.Goals.{then-octet-le127, else-octet-le127}

pub loop-octet-init : goal.loop-octet-init
loop-octet-init c = record { counted = λ all a. counted_none c.args.octets.now; most = omega arith }

pub loop-octet-preserved : goal.loop-octet-preserved
loop-octet-preserved c =
    let inv = c.loop-octet.invariant in
    let octets = c.args.octets.now in
    let at = c.loop-octet.octet-index in
    elim c.if-octet-le127.branch [
      | then-octet-le127 w ↦
          let first = w.next_count-count.ensures.first in
          let other = w.next_count-count.ensures.other in
          rw w.count-is (record {
            counted = λ all a.
                counted_end octets at c.loop-octet.count w.next_count-count.result all a (inv.counted all a)
                c.loop-octet-test.true (let le = w.if-octet-le127.true in omega arith) first other;
            most = most_next c.loop-octet.count w.next_count-count.result at inv.most first other;
          })
      | else-octet-le127 w ↦
          rw w.count-is (record {
            counted = λ all a.
                counted_on octets at c.loop-octet.count all a (inv.counted all a) c.loop-octet-test.true
                (let gt = w.if-octet-le127.false in omega arith);
            most = omega (arith, inv.most);
          })
    ]

pub returns-clause-counted : goal.returns-clause-counted
returns-clause-counted c = λ arcs a.
    counted_all c.args.octets.now c.loop-octet.octet-index c.loop-octet.count arcs a
    (c.loop-octet.invariant.counted arcs a) c.loop-octet-test.false
