use Rattle.asn1_oid.proofs.StepLemmas.{Gathers}
use Rattle.asn1_oid.proofs.contents.subidentifier_at.Given as goal

abbrev pub invariant-loop-i : goal.invariant-loop-i
invariant-loop-i g l = Gathers (g.S.OctetSource.list l.source) l.at l.i l.number 4294967376
