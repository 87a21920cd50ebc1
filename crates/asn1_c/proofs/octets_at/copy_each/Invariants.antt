use Rattle.std.proofs.Common.{◌≡◌, take, drop}
use Rattle.asn1_c.specs.Octets.{octets_at}
use Rattle.asn1_c.proofs.octets_at.copy_each.Given as goal

abbrev pub invariant-loop-i : goal.invariant-loop-i
invariant-loop-i l = record {
  copied : take l.i l.room ≡ take l.i (octets_at l.octets l.first l.count);
  rest : drop l.count l.room ≡ drop l.count l.initial.room;
}
