use Rattle.asn1_oid.proofs.ReadingLemmas.{ok_iff, large_iff, none_iff, no_memory}
use Rattle.asn1_oid.proofs.contents.check_contents.Goals as goal

pub returns-clause-ok : goal.returns-clause-ok
returns-clause-ok g c =
    ok_iff (g.S.OctetSource.list c.args.source.now) c.examine.result c.examine.ensures.octets c.examine.ensures.reading

pub returns-clause-arc_too_large : goal.returns-clause-arc_too_large
returns-clause-arc_too_large g c =
    large_iff (g.S.OctetSource.list c.args.source.now) c.examine.result c.examine.ensures.octets
    c.examine.ensures.reading

pub returns-clause-malformed : goal.returns-clause-malformed
returns-clause-malformed g c =
    none_iff (g.S.OctetSource.list c.args.source.now) c.examine.result c.examine.ensures.octets
    c.examine.ensures.reading

pub returns-clause-memory : goal.returns-clause-memory
returns-clause-memory g c =
    no_memory (g.S.OctetSource.list c.args.source.now) c.examine.result c.examine.ensures.octets
    c.examine.ensures.reading
