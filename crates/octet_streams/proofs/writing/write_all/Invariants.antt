use Rattle.std.proofs.Common.{◌≡◌, ℕ, List, ◌++◌}
use Rattle.std.specs.Io.KnownBytes.{Appends}
use Rattle.octet_streams.proofs.writing.write_all.Given as goal

-- what is left is the text without the front that was written
abbrev pub invariant-loop : goal.invariant-loop
invariant-loop g l =
    (front : List ℕ) × (l.initial.rest ≡ front ++ l.rest)
    × Appends (g.W.Write.contents l.initial.output) (g.W.Write.contents l.output) front
