use Rattle.asn1_x690_decode.proofs.ExplanationSteps.{within, found, absent}
use Rattle.asn1_x690_decode.proofs.explanation.header_at.Goals as goal

pub next_header-requires-clause-within : goal.next_header-requires-clause-within
next_header-requires-clause-within c = within c.args.octets.now c.args.at c.requires.inside

pub returns-clause-is : goal.returns-clause-is
returns-clause-is c =
    let n = c.next_header in
    found c.args.octets.now c.args.at n.new.state n.result n.ensures.onward n.ensures.ordered n.ensures.ends n.ensures.read

pub returns-clause-absent : goal.returns-clause-absent
returns-clause-absent c =
    let n = c.next_header in
    absent c.args.octets.now c.args.at n.new.state n.result n.ensures.read
