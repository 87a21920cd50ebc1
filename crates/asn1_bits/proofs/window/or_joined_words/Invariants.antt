use Rattle.std.proofs.Common.{◌≡◌, ◌+◌, ◌*◌, take, drop, length}
use Rattle.asn1_bits.specs.Bits.{bits, ored}
use Rattle.asn1_bits.proofs.window.or_joined_words.Given as goal

abbrev pub invariant-loop-k : goal.invariant-loop-k
invariant-loop-k l = record {
  bits : bits l.dst.octets.now ≡ ored (bits l.initial.dst.octets.now) (8 * l.first) (take (64 * l.k) (drop l.shift (bits l.src)));
  same_reference : l.dst.octets.ghost_name ≡ l.initial.dst.octets.ghost_name;
  len : length l.dst.octets.now ≡ length l.initial.dst.octets.now;
  placed : l.dst.placed.count ≡ l.initial.dst.placed.count + l.k;
  turns : l.turns.count ≡ l.initial.turns.count + l.k;
}
