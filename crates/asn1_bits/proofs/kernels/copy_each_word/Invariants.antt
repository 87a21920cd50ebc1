use Rattle.std.proofs.Common.{◌≡◌, ◌+◌, ◌*◌, take, length}
use Rattle.asn1_bits.specs.Bits.{bits, ored, IsZeroFrom}
use Rattle.asn1_bits.proofs.kernels.copy_each_word.Given as goal

abbrev pub invariant-loop-k : goal.invariant-loop-k
invariant-loop-k l = record {
  zeros : IsZeroFrom (8 * (l.first + 8 * l.k)) (bits l.dst.octets.now);
  placed : bits l.dst.octets.now ≡ ored (bits l.initial.dst.octets.now) (8 * l.first) (take (64 * l.k) (bits l.src));
  same_reference : l.dst.octets.ghost_name ≡ l.initial.dst.octets.ghost_name;
  len : length l.dst.octets.now ≡ length l.initial.dst.octets.now;
  each_turn_places : l.dst.placed.count ≡ l.initial.dst.placed.count + l.k;
  turns : l.turns.count ≡ l.initial.turns.count + l.k;
}
