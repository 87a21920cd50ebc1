use Rattle.std.proofs.Common.{◌≡◌, ◌≤◌, length, take, map}
use Rattle.std.specs.Int.{w16, from_be_bytes}
use Rattle.std.specs.Prelude.{vec_len, vec_capacity}
use Rattle.asn1_strings.proofs.code_unit.U16CodeUnit.of_octets.Given as goal

abbrev pub invariant-loop-pair : goal.invariant-loop-pair
invariant-loop-pair l = record {
  items : l.units.items ≡ map (from_be_bytes w16) (take l.pair-index l.pairs);
  len : vec_len l.units ≡ l.pair-index;
  room : length l.pairs ≤ vec_capacity l.units;
}
