use Rattle.std.proofs.Common.{sym}
use Rattle.asn1_bits.specs.BitStr.{bits_of}
use Rattle.asn1_bits.specs.Bits.{number}
use Rattle.asn1_strings.proofs.PieceLemmas.{length-numbers}
use Rattle.asn1_strings.proofs.pieces.BitPieces.count.Goals as goal

pub returns : goal.returns
returns c = rw c.len.ensures.list (sym (length-numbers number c.args.self.now.width (bits_of c.args.self.now.bits)))
