use Rattle.asn1_oid.specs.Oid.{arcs_of}
use Rattle.asn1_oid.proofs.WritingLemmas.{contents_counted}
use Rattle.asn1_oid.proofs.oid.Oid.contents_len.Goals as goal

pub returns-clause-len : goal.returns-clause-len
returns-clause-len c =
    rw c.from.ensures
    (contents_counted (arcs_of c.args.self.now) c.in_ok-number.arcs.now c.in_ok-number.number c.octet_count.result
    c.octets_of_arcs.result c.args.self.now.valid
    c.in_ok-number.ensures.numbers c.in_ok-number.ensures.two c.octet_count.ensures.digits c.octets_of_arcs.ensures.len)
