use Rattle.std.proofs.Common.{◌≡◌, ◌++◌, length, drop}
use Rattle.asn1_c.proofs.Utf8Lemmas.{utf8_before}
use Rattle.asn1_c.proofs.string_utf8.put_utf8.Given as goal

abbrev pub invariant-loop-i : goal.invariant-loop-i
invariant-loop-i l = record {
  written : l.room ≡ utf8_before l.name l.octets l.i ++ drop l.at l.fn.room;
  place : l.at ≡ length (utf8_before l.name l.octets l.i);
}
