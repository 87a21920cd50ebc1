use Rattle.std.proofs.Common.{◌≡◌, ◌≤◌, ◌+◌, ◌*◌, length}
use Rattle.asn1_bits.specs.Bits.{bits}
use Rattle.asn1_x691.specs.Types.{any_true}
use Rattle.asn1_x691_decode.specs.Decoding.{told_by}
use Rattle.asn1_x691_decode.proofs.presence.has_one.Given as goal

abbrev pub invariant-loop-presence : goal.invariant-loop-presence
invariant-loop-presence l = (l.presence.at + l.presence.left ≤ 8 * length l.octets)
    × (any_true (told_by (bits l.octets) l.presence) ≡ any_true (told_by (bits l.octets) l.initial.presence))

abbrev pub decreases-loop-presence : goal.decreases-loop-presence
decreases-loop-presence l = l.presence.left
