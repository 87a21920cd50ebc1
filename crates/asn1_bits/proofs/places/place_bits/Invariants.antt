use Rattle.std.proofs.Common.{◌≡◌, ◌+◌, ◌*◌, take}
use Rattle.asn1_bits.specs.Bits.{ored}
use Rattle.asn1_bits.specs.BitStr.{bits_of}
use Rattle.asn1_bits.proofs.places.place_bits.Given as goal

abbrev pub invariant-loop-k : goal.invariant-loop-k
invariant-loop-k g l = record {
  bits : g.D.Places.list l.target ≡ ored (g.D.Places.list l.initial.target) l.position
      (take (64 * l.k) (bits_of l.src));
  same_reference : g.D.Places.reference l.target ≡ g.D.Places.reference l.initial.target;
  placements : g.D.Places.placements l.target ≡ g.D.Places.placements l.initial.target + l.k;
  turns : l.turns.count ≡ l.initial.turns.count + l.k;
}
