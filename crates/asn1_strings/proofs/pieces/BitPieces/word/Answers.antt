use Rattle.std.proofs.Common.{arith}
use Rattle.std.proofs.lemmas.Grind.{common_steps}
use Rattle.asn1_strings.proofs.pieces.BitPieces.word.Goals as goal

pub returns : goal.returns
returns c = grind (arith, common_steps)
