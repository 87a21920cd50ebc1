use Rattle.std.proofs.Common.{◌≡◌, ◌≤◌, ◌+◌, ℕ, List, Ok}
use Rattle.asn1_oid.specs.Reading.{contents_reading}
use Rattle.asn1_c.proofs.ArcLemmas.{Counted}
use Rattle.asn1_c.proofs.identifiers.count_arcs.Given as goal

abbrev pub invariant-loop-octet : goal.invariant-loop-octet
invariant-loop-octet l = record {
  counted : (all : List ℕ) → contents_reading l.octets ≡ Ok all → Counted l.octets l.octet-index l.count;
  most : l.count ≤ l.octet-index + 1;
}
