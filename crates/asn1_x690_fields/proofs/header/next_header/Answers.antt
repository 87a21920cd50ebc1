use Rattle.asn1_x690_fields.proofs.header.next_header.Goals as goal

pub returns-in-Some-clause-read : goal.returns-in-Some-clause-read
returns-in-Some-clause-read c = c.in-Some.ensures.read c.args.node
