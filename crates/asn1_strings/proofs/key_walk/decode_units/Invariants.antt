use Rattle.std.proofs.Common.{◌≡◌, ◌*◌, true, map}
use Rattle.std.specs.Prelude.{vec_len, vec_capacity}
use Rattle.asn1_bits.specs.BitStr.{bits_of}
use Rattle.asn1_bits.specs.Bits.{number}
use Rattle.asn1_strings.specs.Pieces.{pieces}
use Rattle.asn1_strings.specs.KeyWalk.{AreCharactersOf}
use Rattle.asn1_strings.proofs.key_walk.decode_units.Given as goal

abbrev pub invariant-loop : goal.invariant-loop
invariant-loop g l = record {
  len : vec_len l.units ≡ l.counter * l.each;
  capacity : vec_capacity l.units ≡ l.count;
  read : l.right ≡ true
      → AreCharactersOf g.S.HasCharacterSet.CHARACTER_SET_NAME (g.M.Keys.key_map l.map).get
      (map number (pieces l.keys.width (bits_of l.keys.bits))) (vec_len l.units)
      (map g.S.T.CodeUnit.value l.units.items);
  empty : l.count ≡ 0 → l.right ≡ true;
}
