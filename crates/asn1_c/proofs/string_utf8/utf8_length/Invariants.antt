use Rattle.std.proofs.Common.{◌≡◌, ◌*◌, ◌≤◌, length}
use Rattle.asn1_c.proofs.Utf8Lemmas.{utf8_before}
use Rattle.asn1_c.proofs.string_utf8.utf8_length.Given as goal

abbrev pub invariant-loop-i : goal.invariant-loop-i
invariant-loop-i l = record {
  total : l.total ≡ length (utf8_before l.name l.octets l.i);
  bounded : l.total ≤ 3 * l.i;
}
