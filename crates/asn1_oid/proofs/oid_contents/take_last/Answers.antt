use Rattle.std.proofs.Common.{◌<◌, arith}
use Rattle.asn1_oid.proofs.BackLemmas.{low_octets-zero, takes_last}
use Rattle.asn1_oid.proofs.oid_contents.take_last.Goals as goal

pub returns-then-count-eq0-clause-last : goal.returns-then-count-eq0-clause-last
returns-then-count-eq0-clause-last c =
    let none = low_octets-zero c.args.word c.args.count.now c.if-count-eq0.true in (none, none)

pub returns-clause-last : goal.returns-clause-last
returns-clause-last c =
    let some : 0 < c.args.count.now = let ne = c.if-count-eq0.false in omega arith in
    takes_last c.args.word c.args.count.now some
