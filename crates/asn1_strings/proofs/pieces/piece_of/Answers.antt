use Rattle.std.proofs.Common.{length, arith}
use Rattle.asn1_strings.specs.Laws.PieceLaws.{piece_within}
use Rattle.asn1_strings.proofs.pieces.piece_of.Goals as goal

pub overflow_mul-from : goal.overflow_mul-from
overflow_mul-from c = let h = piece_within c.args.width (length c.args.octets.now) c.args.i c.requires in omega arith
