use Rattle.std.proofs.Common.{◌+◌, ◌*◌}
use Rattle.asn1_notation.proofs.parser.Parser.+types.Given as goal

abbrev pub decreases-any_type : goal.decreases-any_type
decreases-any_type l = 8 * l.depth + 0

abbrev pub decreases-member : goal.decreases-member
decreases-member l = 8 * l.depth + 1

abbrev pub decreases-group : goal.decreases-group
decreases-group l = 8 * l.depth + 2

abbrev pub decreases-members : goal.decreases-members
decreases-members l = 8 * l.depth + 3

abbrev pub decreases-collection : goal.decreases-collection
decreases-collection l = 8 * l.depth + 4

abbrev pub decreases-tagged : goal.decreases-tagged
decreases-tagged l = 8 * l.depth + 1

abbrev pub decreases-type_constraint : goal.decreases-type_constraint
decreases-type_constraint l = 8 * l.depth + 1

abbrev pub decreases-reference : goal.decreases-reference
decreases-reference l = 8 * l.depth + 4

abbrev pub decreases-arguments : goal.decreases-arguments
decreases-arguments l = 8 * l.depth + 3

abbrev pub decreases-argument : goal.decreases-argument
decreases-argument l = 8 * l.depth + 2

abbrev pub decreases-object_braces : goal.decreases-object_braces
decreases-object_braces l = 8 * l.depth + 1

abbrev pub decreases-object_pieces : goal.decreases-object_pieces
decreases-object_pieces l = 8 * l.depth + 0

abbrev pub decreases-object_piece : goal.decreases-object_piece
decreases-object_piece l = 8 * l.depth + 2
