use Rattle.std.proofs.Common.{◌≡◌, ◌++◌, drop}
use Rattle.asn1_canonical.specs.Arranged.{indexed}
use Rattle.asn1_canonical.proofs.arrange.with_indexes.Given as goal

abbrev pub invariant-loop-index : goal.invariant-loop-index
invariant-loop-index l = l.placed.items ++ indexed l.index (drop l.index l.parts) ≡ indexed 0 l.parts
