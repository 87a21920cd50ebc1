use Rattle.std.proofs.Common.{◌≡◌, length}
use Rattle.asn1_builder.specs.Drafts.{type_through}
use Rattle.asn1_builder.proofs.expected.type_of.Given as goal

abbrev pub invariant-loop-left : goal.invariant-loop-left
invariant-loop-left l = type_through l.left l.tables l.at ≡ type_through (length l.tables.nodes.now) l.tables l.node

abbrev pub decreases-loop-left : goal.decreases-loop-left
decreases-loop-left l = l.left
