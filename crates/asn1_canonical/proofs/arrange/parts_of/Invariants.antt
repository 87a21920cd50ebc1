use Rattle.std.proofs.Common.{◌≡◌, take, map}
use Rattle.asn1_canonical.specs.Arranged.{part_of}
use Rattle.asn1_canonical.proofs.arrange.parts_of.Given as goal

abbrev pub invariant-loop-it : goal.invariant-loop-it
invariant-loop-it l = l.parts.items ≡ map part_of (take l.it-index l.placed)
