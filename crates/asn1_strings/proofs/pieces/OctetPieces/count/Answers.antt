use Rattle.std.proofs.Common.{refl}
use Rattle.std.proofs.lemmas.List.{length-map}
use Rattle.std.proofs.lemmas.List.FromFn.{length-range_with_len}
use Rattle.asn1_strings.proofs.pieces.OctetPieces.count.Goals as goal

pub returns : goal.returns
returns c = simp (length-map, length-range_with_len) refl
