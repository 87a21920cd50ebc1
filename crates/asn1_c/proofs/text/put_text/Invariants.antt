use Rattle.std.proofs.Common.{◌≡◌, ◌++◌, length, take, drop}
use Rattle.asn1_c.proofs.TextLemmas.{dotted_from}
use Rattle.asn1_c.proofs.text.put_text.Given as goal

abbrev pub invariant-loop-arc : goal.invariant-loop-arc
invariant-loop-arc l = record {
  written : l.room ≡ dotted_from l.first (take l.arc-index l.others) ++ drop l.at l.fn.room;
  place : l.at ≡ length (dotted_from l.first (take l.arc-index l.others));
}
