use Rattle.std.proofs.Common.{◌≤◌, length, take}
use Rattle.asn1_c.proofs.ArcLemmas.{Reads}
use Rattle.asn1_c.proofs.identifiers.write_arcs.Given as goal

abbrev pub invariant-loop-octet : goal.invariant-loop-octet
invariant-loop-octet l = record {
  reads : Reads l.octets l.octet-index l.number (take l.count l.room);
  within : l.count ≤ length l.room;
  bounded : l.number ≤ 4294967376;
}
