use Rattle.std.proofs.Common.{arith}
use Rattle.field_lines.proofs.WordLemmas.{other_counted_letter}
use Rattle.field_lines.proofs.parse.counted_shape.Goals as goal

pub returns-in_default : goal.returns-in_default
returns-in_default c =
    other_counted_letter c.args.letter c.args.count c.requires (omega arith) (omega arith) (omega arith) (omega arith)
    (omega arith)
