use Rattle.std.proofs.Common.{◌≡◌, ◌≢◌, ◌<◌, length, arith}
use Rattle.asn1_oid.proofs.StepLemmas.{gathers_more, stands, one_stands, one_gathered, none_from_80, none_from_end}
use Rattle.asn1_oid.proofs.contents.subidentifier_at.Goals as goal

pub returns-then-first-lt128-clause-some : goal.returns-then-first-lt128-clause-some
returns-then-first-lt128-clause-some g c =
    let octets = g.S.OctetSource.list c.args.source.now in
    let lt : c.args.at < length octets = omega (arith, c.count-count.ensures.count) in
    rw c.from.ensures
    (one_stands octets c.args.at c.octet-first.result lt c.octet-first.ensures c.if-first-lt128.true)

pub returns-then-first-clause-none : goal.returns-then-first-clause-none
returns-then-first-clause-none g c = λ lt.
    none_from_80 (g.S.OctetSource.list c.args.source.now) c.args.at c.octet-first.result lt c.octet-first.ensures
    c.if-first.true

pub loop-i-init : goal.loop-i-init
loop-i-init g c =
    let octets = g.S.OctetSource.list c.args.source.now in
    let lt : c.args.at < length octets = omega (arith, c.count-count.ensures.count) in
    rw c.from-number.ensures
    (one_gathered octets c.args.at c.octet-first.result lt c.octet-first.ensures c.if-first-lt128.false
    c.if-first.false)

pub returns-then-octet-lt128-clause-some : goal.returns-then-octet-lt128-clause-some
returns-then-octet-lt128-clause-some g c =
    let octets = g.S.OctetSource.list c.args.source.now in
    let lt : c.loop-i.i < length octets = omega (arith, c.count-count.ensures.count) in
    rw (c.min-number.ensures, c.from-in-loop-i.ensures)
    (stands octets c.args.at c.loop-i.i c.loop-i.number c.octet-octet.result 4294967376 (omega arith) c.loop-i.invariant
    lt c.octet-octet.ensures c.if-octet-lt128.true)

pub loop-i-preserved : goal.loop-i-preserved
loop-i-preserved g c =
    let octets = g.S.OctetSource.list c.args.source.now in
    let lt : c.loop-i.i < length octets = omega (arith, c.count-count.ensures.count) in
    let first : c.loop-i.i ≡ c.args.at → c.octet-octet.result ≢ 128 = λ same. absurd (omega (arith, c.loop-i.auto.i)) in
    rw (c.min-number.ensures, c.from-in-loop-i.ensures)
    (gathers_more octets c.args.at c.loop-i.i c.loop-i.number c.octet-octet.result 4294967376 (omega arith)
    c.loop-i.invariant lt c.octet-octet.ensures c.if-octet-lt128.false first)

pub returns-clause-none : goal.returns-clause-none
returns-clause-none g c = λ lt.
    let octets = g.S.OctetSource.list c.args.source.now in
    none_from_end octets c.args.at c.loop-i.i c.loop-i.number 4294967376 c.loop-i.invariant lt
    (omega (arith, c.count-count.ensures.count, c.loop-i-test.false))
