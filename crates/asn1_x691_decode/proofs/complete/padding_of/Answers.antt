use Rattle.std.proofs.Common.{sym, arith}
use Rattle.asn1_x691_decode.proofs.OpenSteps.{padding_none, padding_some}
use Rattle.asn1_x691_decode.proofs.complete.padding_of.Goals as goal

pub returns-then-count-eq0-clause-value : goal.returns-then-count-eq0-clause-value
returns-then-count-eq0-clause-value c = sym (padding_none c.args.count c.if-count-eq0.true)

pub returns-clause-value : goal.returns-clause-value
returns-clause-value c = sym (padding_some c.args.count (omega (arith, c.if-count-eq0.false)))
