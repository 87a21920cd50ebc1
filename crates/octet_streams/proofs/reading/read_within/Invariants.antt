use Rattle.std.specs.Io.KnownBytes.{Consumes}
use Rattle.octet_streams.proofs.reading.read_within.Given as goal

-- the text is what the input returned so far
abbrev pub invariant-loop : goal.invariant-loop
invariant-loop g l = Consumes (g.R.Read.remaining l.initial.input) (g.R.Read.remaining l.input) l.text.items
