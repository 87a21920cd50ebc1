use Rattle.std.proofs.Common.{◌≡◌, take, map}
use Rattle.asn1_canonical.specs.Arranged.{index_of}
use Rattle.asn1_canonical.proofs.arrange.indexes_of.Given as goal

abbrev pub invariant-loop-it : goal.invariant-loop-it
invariant-loop-it l = l.indexes.items ≡ map index_of (take l.it-index l.placed)
