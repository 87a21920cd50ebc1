use Rattle.std.proofs.Common.{◌≡◌, ◌+◌, ◌-◌, length}
use Rattle.asn1_characters.specs.Widths.{ceil_log2}
use Rattle.asn1_alphabets.proofs.AscendingLemmas.{Searching}
use Rattle.asn1_alphabets.proofs.search.find_ascending.Given as goal

abbrev pub invariant-loop-low : goal.invariant-loop-low
invariant-loop-low g l = record {
  search : Searching (g.L.Entries.list l.fn.entries) l.low l.high l.character l.fn.probes.count l.probes.count
      (l.fn.probes.count + (ceil_log2 (length (g.L.Entries.list l.fn.entries)) + 1));
  same : g.L.Entries.list l.entries ≡ g.L.Entries.list l.fn.entries;
  tied : l.probes.count + g.L.Entries.looks l.fn.entries ≡ l.fn.probes.count + g.L.Entries.looks l.entries;
}

abbrev pub decreases-loop-low : goal.decreases-loop-low
decreases-loop-low g l = l.high - l.low
