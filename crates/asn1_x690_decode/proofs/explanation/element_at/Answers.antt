use Rattle.std.proofs.Common.{arith}
use Rattle.asn1_x690_decode.proofs.ExplanationSteps.{past}
use Rattle.asn1_x690_decode.proofs.explanation.element_at.Goals as goal

pub returns-then-at-octets-clause-absent : goal.returns-then-at-octets-clause-absent
returns-then-at-octets-clause-absent c = past c.args.octets.now c.args.at (omega arith)
