use Rattle.asn1_schema.specs.Times.{AreDigits}
use Rattle.asn1_schema.proofs.times.are_digits.Given as goal

abbrev pub invariant-loop-index : goal.invariant-loop-index
invariant-loop-index g l = AreDigits (g.S.NumberSource.list l.source) l.from l.index
