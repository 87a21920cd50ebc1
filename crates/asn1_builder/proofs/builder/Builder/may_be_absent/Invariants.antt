use Rattle.asn1_builder.specs.Drafts.{draft_of}
use Rattle.asn1_builder.specs.Steps.{MayBeAbsent}
use Rattle.asn1_builder.proofs.builder.Builder.may_be_absent.Given as goal

abbrev pub invariant-loop-index : goal.invariant-loop-index
invariant-loop-index l = MayBeAbsent (draft_of l.self) l.root l.from l.index
