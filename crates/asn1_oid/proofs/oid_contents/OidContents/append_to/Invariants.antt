use Rattle.std.proofs.Common.{◌≡◌, ◌+◌, ◌-◌, ◌*◌, ◌≤◌, ◌++◌, length, take, vec_len, vec_capacity}
use Rattle.asn1_oid.specs.Writing.{word_left}
use Rattle.asn1_oid.proofs.oid_contents.OidContents.append_to.Given as goal

abbrev pub invariant-loop-arc : goal.invariant-loop-arc
invariant-loop-arc l = record {
  items : l.octets.items ≡ l.fn.octets.items ++ word_left l.word l.left (take l.arc-index l.arcs);
  room : vec_len l.octets + 5 * (length l.arcs - l.arc-index) + l.back_left ≤ vec_capacity l.octets;
}
