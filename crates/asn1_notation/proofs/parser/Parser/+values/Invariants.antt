use Rattle.std.proofs.Common.{◌+◌, ◌*◌}
use Rattle.asn1_notation.proofs.parser.Parser.+values.Given as goal

abbrev pub decreases-value : goal.decreases-value
decreases-value l = 8 * l.depth + 0

abbrev pub decreases-piece : goal.decreases-piece
decreases-piece l = 8 * l.depth + 2

abbrev pub decreases-braces : goal.decreases-braces
decreases-braces l = 8 * l.depth + 3

abbrev pub decreases-alternative : goal.decreases-alternative
decreases-alternative l = 8 * l.depth + 1

abbrev pub decreases-named_piece : goal.decreases-named_piece
decreases-named_piece l = 8 * l.depth + 1
