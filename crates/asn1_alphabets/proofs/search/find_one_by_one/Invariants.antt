use Rattle.std.proofs.Common.{◌≡◌, ◌≤◌, ◌+◌, false, take}
use Rattle.asn1_characters.specs.Sets.{has_character}
use Rattle.asn1_alphabets.proofs.search.find_one_by_one.Given as goal

abbrev pub invariant-loop-i : goal.invariant-loop-i
invariant-loop-i g l = record {
  none : has_character (take l.i (g.L.Entries.list l.fn.entries)) l.character ≡ false;
  same : g.L.Entries.list l.entries ≡ g.L.Entries.list l.fn.entries;
  tied : l.probes.count + g.L.Entries.looks l.fn.entries ≡ l.fn.probes.count + g.L.Entries.looks l.entries;
  since : l.fn.probes.count ≤ l.probes.count;
}
