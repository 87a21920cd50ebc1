use Rattle.std.proofs.Common.{◌≡◌, ◌*◌, ◌≤◌, length, take, drop}
use Rattle.asn1_c.specs.Fields.{AreReadAt}
use Rattle.asn1_c.proofs.fields.asn1v_read_fields.Given as goal

abbrev pub invariant-loop-i : goal.invariant-loop-i
invariant-loop-i l = record {
  read : AreReadAt l.octets l.alphabets l.position (take l.i l.shapes) (take l.i l.fields) l.at;
  within : l.at ≤ 8 * length l.octets;
  rest : drop l.i l.fields ≡ drop l.i l.initial.fields;
  kept : l.refusal ≡ l.initial.refusal;
}
