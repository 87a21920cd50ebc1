use Rattle.std.proofs.Common.{◌≡◌, ◌+◌, List, Bool, length, take}
use Rattle.asn1_bits.specs.Bits.{bits, overwritten}
use Rattle.asn1_c.specs.Writing.{AreNamed}
use Rattle.asn1_c.proofs.writing.put_fields.Given as goal

abbrev pub invariant-loop-i : goal.invariant-loop-i
invariant-loop-i l = record {
  written : (list : List Bool) × AreNamed l.source l.alphabets (take l.i l.shapes) (take l.i l.fields) list
      × (bits l.target ≡ overwritten (bits l.initial.target) l.position list) × (l.at ≡ l.position + length list);
  kept : length l.target ≡ length l.initial.target;
}
