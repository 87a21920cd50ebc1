use Rattle.asn1_oid.specs.Oid.{arcs_of}
use Rattle.asn1_oid.proofs.WritingLemmas.{contents_are}
use Rattle.asn1_oid.proofs.oid.Oid.contents.Goals as goal

pub returns : goal.returns
returns c =
    contents_are (arcs_of c.args.self.now) c.in_ok-number.arcs.now c.of.result c.in_ok-number.number
    c.args.self.now.valid
    c.in_ok-number.ensures.numbers c.in_ok-number.ensures.two c.of.ensures
