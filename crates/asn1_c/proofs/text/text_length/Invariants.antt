use Rattle.std.proofs.Common.{◌≡◌, ◌+◌, ◌*◌, ◌≤◌, length, take}
use Rattle.asn1_c.proofs.TextLemmas.{dotted_from}
use Rattle.asn1_c.proofs.text.text_length.Given as goal

abbrev pub invariant-loop-arc : goal.invariant-loop-arc
invariant-loop-arc l = record {
  total : l.total ≡ length (dotted_from l.first (take l.arc-index l.others));
  bounded : l.total ≤ 11 * (l.arc-index + 1);
}
