use Rattle.asn1_integer.proofs.OneLemmas.{signed_wraps_to_one, unsigned_wraps_to_one, signed_has_one_residue, unsigned_has_one_residue}
use Rattle.asn1_integer.proofs.laws.laws_of_wrapping.Goals as goal

pub returns : goal.returns
returns c = record {
  signed = signed_wraps_to_one;
  unsigned = unsigned_wraps_to_one;
  signed_residue = signed_has_one_residue;
  unsigned_residue = unsigned_has_one_residue;
}
