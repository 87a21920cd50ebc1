use Rattle.std.proofs.Common.{◌≡◌, ℕ, ◌≤◌, List, ◌++◌, length, drop}
use Rattle.std.specs.Fmt.{HasWritten, IsPlainFormatter}
use Rattle.asn1_oid.specs.Arcs.{dotted, with_stops}
use Rattle.asn1_oid.proofs.oid.OidDisplay.fmt.Given as goal

-- some text is written, and what is left to write ends the dotted text
abbrev pub invariant-loop-rest : goal.invariant-loop-rest
invariant-loop-rest g l = (text : List ℕ)
    × (text ++ drop l.skipped (with_stops l.rest) ≡ dotted l.self.arcs.now)
    × (l.skipped ≤ 1)
    × (IsPlainFormatter l.fn.f → HasWritten g.W.Write.write_str_gives l.fn.f text l.f)

abbrev pub decreases-loop-rest : goal.decreases-loop-rest
decreases-loop-rest g l = length l.rest
