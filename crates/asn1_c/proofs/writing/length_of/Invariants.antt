use Rattle.std.proofs.Common.{◌≡◌, ◌*◌, ◌≤◌, List, Bool, length, take}
use Rattle.asn1_c.specs.Writing.{AreNamed}
use Rattle.asn1_c.proofs.writing.length_of.Given as goal

abbrev pub invariant-loop-i : goal.invariant-loop-i
invariant-loop-i l = record {
  named : (list : List Bool) × AreNamed l.source l.alphabets (take l.i l.shapes) (take l.i l.fields) list
      × (l.total ≡ length list);
  bounded : l.total ≤ l.i * 18446744073709551615;
}
