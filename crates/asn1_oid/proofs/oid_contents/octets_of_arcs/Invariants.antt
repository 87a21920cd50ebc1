use Rattle.std.proofs.Common.{◌≡◌, ◌≤◌, ◌*◌, length, take}
use Rattle.std.specs.List.{flat_map}
use Rattle.asn1_oid.specs.Writing.{subidentifier_octets}
use Rattle.asn1_oid.proofs.oid_contents.octets_of_arcs.Given as goal

abbrev pub invariant-loop-arc : goal.invariant-loop-arc
invariant-loop-arc l = (l.len ≡ length (flat_map subidentifier_octets (take l.arc-index l.arcs)))
    × (l.len ≤ 5 * l.arc-index)
