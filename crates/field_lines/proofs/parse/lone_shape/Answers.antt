use Rattle.std.proofs.Common.{arith}
use Rattle.field_lines.proofs.WordLemmas.{other_letter_alone}
use Rattle.field_lines.proofs.parse.lone_shape.Goals as goal

pub returns-in_default : goal.returns-in_default
returns-in_default c = other_letter_alone c.args.letter (omega arith) (omega arith)
