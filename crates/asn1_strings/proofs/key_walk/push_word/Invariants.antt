use Rattle.std.proofs.Common.{◌≡◌, ◌+◌, true, map}
use Rattle.std.specs.Prelude.{vec_len, vec_capacity}
use Rattle.asn1_bits.specs.BitStr.{bits_of}
use Rattle.asn1_bits.specs.Bits.{number}
use Rattle.asn1_strings.specs.Pieces.{pieces}
use Rattle.asn1_strings.specs.KeyWalk.{AreCharactersOf}
use Rattle.asn1_strings.proofs.key_walk.push_word.Given as goal

abbrev pub invariant-loop-i : goal.invariant-loop-i
invariant-loop-i g l =
    let name = g.S.HasCharacterSet.CHARACTER_SET_NAME in
    let get = (g.M.Keys.key_map l.map).get in
    let numbers = map number (pieces l.keys.width (bits_of l.keys.bits)) in
    record {
      len : vec_len l.units ≡ vec_len l.fn.units + l.i;
      capacity : vec_capacity l.units ≡ vec_capacity l.fn.units;
      read : l.right ≡ true
          → AreCharactersOf name get numbers (vec_len l.fn.units) (map g.S.T.CodeUnit.value l.fn.units.items)
          → AreCharactersOf name get numbers (vec_len l.fn.units + l.i) (map g.S.T.CodeUnit.value l.units.items);
      empty : l.i ≡ 0 → l.right ≡ true;
    }
