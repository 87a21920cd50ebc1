use Rattle.std.proofs.Common.{◌<◌, arith}
use Rattle.asn1_oid.proofs.BackLemmas.{low_octets-zero}
use Rattle.asn1_oid.proofs.PushLemmas.{lowest_first}
use Rattle.asn1_oid.proofs.oid_contents.take_first.Goals as goal

pub returns-then-count-eq0-clause-first : goal.returns-then-count-eq0-clause-first
returns-then-count-eq0-clause-first c =
    let none = low_octets-zero c.args.word.now c.args.count.now c.if-count-eq0.true in (none, none)

pub returns-clause-first : goal.returns-clause-first
returns-clause-first c =
    let some : 0 < c.args.count.now = let ne = c.if-count-eq0.false in omega arith in
    lowest_first c.args.word.now c.args.count.now some
