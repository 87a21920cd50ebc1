use Rattle.std.proofs.Common.{ℕ, ◌+◌, List, take, sym, subst, arith}
use Rattle.asn1_c.proofs.ArcLemmas.{Reads, reads_none, ended, continued, written, none_before, some_before}
use Rattle.asn1_c.proofs.identifiers.write_arcs.Goals as goal
use Rattle.asn1_c.proofs.identifiers.write_arcs.Goals.{then-octet-lt128+in-Some, else-octet-lt128}

pub loop-octet-init : goal.loop-octet-init
loop-octet-init c = record { reads = reads_none c.args.octets.now; within = omega arith; bounded = omega arith }

pub put_number-requires-clause-first : goal.put_number-requires-clause-first
put_number-requires-clause-first c = λ none.
    let inv = c.loop-octet.invariant in
    (ended c.args.octets.now c.loop-octet.octet-index c.loop-octet.number c.min-number.result c.from.result
    (take c.loop-octet.count c.loop-octet.room) c.requires.0 c.requires.1 inv.reads
    c.loop-octet-test.true c.if-octet-lt128.true c.min-number.ensures c.from.ensures).first
    (none_before c.loop-octet.room c.loop-octet.count none)

pub put_number-requires-clause-other : goal.put_number-requires-clause-other
put_number-requires-clause-other c = λ some.
    let inv = c.loop-octet.invariant in
    (ended c.args.octets.now c.loop-octet.octet-index c.loop-octet.number c.min-number.result c.from.result
    (take c.loop-octet.count c.loop-octet.room) c.requires.0 c.requires.1 inv.reads
    c.loop-octet-test.true c.if-octet-lt128.true c.min-number.ensures c.from.ensures).other
    (some_before c.loop-octet.room c.loop-octet.count inv.within some)

pub returns-in_default-clause-none : goal.returns-in_default-clause-none
returns-in_default-clause-none c = λ arcs is.
    let inv = c.loop-octet.invariant in
    let e =
    ended c.args.octets.now c.loop-octet.octet-index c.loop-octet.number c.min-number.result c.from.result
    (take c.loop-octet.count c.loop-octet.room) arcs is inv.reads
    c.loop-octet-test.true c.if-octet-lt128.true c.min-number.ensures c.from.ensures in
    let few = e.few in
    let none = c.in_default.ensures.none in
    let same = c.loop-octet.auto.room in
    omega arith

pub loop-octet-preserved : goal.loop-octet-preserved
loop-octet-preserved c =
    let inv = c.loop-octet.invariant in
    let octets = c.args.octets.now in
    let at = c.loop-octet.octet-index in
    elim c.if-octet-lt128.branch [
      | then-octet-lt128+in-Some w ↦
          let e =
          ended octets at c.loop-octet.number c.min-number.result c.from.result
          (take c.loop-octet.count c.loop-octet.room) c.requires.0 c.requires.1 inv.reads
          c.loop-octet-test.true w.if-octet-lt128.true c.min-number.ensures c.from.ensures in
          rw (w.room-is, w.number-is, w.count-is) (record {
            reads =
                subst (λ (l : List ℕ). Reads octets (c.loop-octet.octet-index + 1) 0 l) (sym w.in-Some.ensures.written)
                e.next;
            within = w.in-Some.ensures.within;
            bounded = omega arith;
          })
      | else-octet-lt128 w ↦
          rw (w.room-is, w.number-is, w.count-is) (record {
            reads =
                continued octets at c.loop-octet.number c.min-number.result c.from.result
                (take c.loop-octet.count c.loop-octet.room) c.requires.0 c.requires.1 inv.reads
                c.loop-octet-test.true w.if-octet-lt128.false c.min-number.ensures c.from.ensures;
            within = inv.within;
            bounded = omega (arith, c.min-number.ensures);
          })
    ]

pub returns-clause-written : goal.returns-clause-written
returns-clause-written c =
    let inv = c.loop-octet.invariant in
    written c.args.octets.now c.loop-octet.octet-index c.loop-octet.number (take c.loop-octet.count c.loop-octet.room)
    c.requires.0 c.requires.1 inv.reads c.loop-octet-test.false
