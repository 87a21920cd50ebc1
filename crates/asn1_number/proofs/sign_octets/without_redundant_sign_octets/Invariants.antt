use Rattle.std.proofs.Common.{◌≡◌, ℕ, ◌<◌, ◌≤◌, length, drop}
use Rattle.asn1_number.specs.Octets.{signed}
use Rattle.asn1_number.proofs.sign_octets.without_redundant_sign_octets.Given as goal

abbrev pub invariant-loop-rest : goal.invariant-loop-rest
invariant-loop-rest l = record {
  end : (k : ℕ) × (k ≤ length l.octets) × (l.rest ≡ drop k l.octets);
  same : 0 < length l.octets → (0 < length l.rest) × (signed l.rest ≡ signed l.octets);
}

abbrev pub decreases-loop-rest : goal.decreases-loop-rest
decreases-loop-rest l = length l.rest
