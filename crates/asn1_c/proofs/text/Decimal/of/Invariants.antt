use Rattle.std.proofs.Common.{◌≡◌, ◌++◌, ◌-◌, ◌<◌, length, drop, decimal}
use Rattle.asn1_c.proofs.text.Decimal.of.Given as goal

abbrev pub invariant-loop-i : goal.invariant-loop-i
invariant-loop-i l = record {
  text : decimal l.number ≡ decimal l.left ++ drop (11 - l.i) l.octets;
  octets : length l.octets ≡ 11;
  more : 0 < l.i → 0 < l.left;
}
