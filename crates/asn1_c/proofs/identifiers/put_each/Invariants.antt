use Rattle.std.proofs.Common.{◌≡◌, ◌+◌, ◌++◌, length, take, drop}
use Rattle.asn1_c.proofs.identifiers.put_each.Given as goal

abbrev pub invariant-loop-octet : goal.invariant-loop-octet
invariant-loop-octet l = record {
  front : take l.at l.room ++ l.octet-iterator ≡ l.initial.octet-iterator;
  count : l.at + length l.octet-iterator ≡ length l.initial.octet-iterator;
  rest : drop (length l.initial.octet-iterator) l.room ≡ drop (length l.initial.octet-iterator) l.initial.room;
  kept : length l.room ≡ length l.initial.room;
}
