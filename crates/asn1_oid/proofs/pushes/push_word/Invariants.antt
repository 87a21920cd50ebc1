use Rattle.std.proofs.Common.{◌≡◌, ◌+◌, ◌-◌, ◌++◌, vec_len, vec_capacity}
use Rattle.asn1_oid.specs.Writing.{low_octets}
use Rattle.asn1_oid.proofs.pushes.push_word.Given as goal

abbrev pub invariant-loop-pushed : goal.invariant-loop-pushed
invariant-loop-pushed l = record {
  items : l.octets.items ++ low_octets l.rest (l.count - l._pushed) ≡ l.fn.octets.items ++ low_octets l.word l.count;
  len : vec_len l.octets ≡ vec_len l.fn.octets + l._pushed;
  capacity : vec_capacity l.octets ≡ vec_capacity l.fn.octets;
}
