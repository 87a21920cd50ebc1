use Rattle.std.proofs.Common.{◌≡◌, ◌+◌, ◌-◌, ◌≤◌}
use Rattle.asn1_x691.specs.Types.{optional_count}
use Rattle.asn1_x691_encode.proofs.presence.count_optional.Given as goal

abbrev pub invariant-loop-index : goal.invariant-loop-index
invariant-loop-index l = (l.count ≤ l.index)
    × (l.count + optional_count l.members (l.rows.count - l.index) (l.rows.from + l.index)
    ≡ optional_count l.members l.rows.count l.rows.from)
