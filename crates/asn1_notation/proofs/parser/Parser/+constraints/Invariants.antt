use Rattle.std.proofs.Common.{◌+◌, ◌*◌}
use Rattle.asn1_notation.proofs.parser.Parser.+constraints.Given as goal

abbrev pub decreases-constraint : goal.decreases-constraint
decreases-constraint l = 8 * l.depth + 0

abbrev pub decreases-element : goal.decreases-element
decreases-element l = 8 * l.depth + 0

abbrev pub decreases-exclusion : goal.decreases-exclusion
decreases-exclusion l = 8 * l.depth + 1

abbrev pub decreases-intersection : goal.decreases-intersection
decreases-intersection l = 8 * l.depth + 2

abbrev pub decreases-union : goal.decreases-union
decreases-union l = 8 * l.depth + 3

abbrev pub decreases-inner_component : goal.decreases-inner_component
decreases-inner_component l = 8 * l.depth + 1

abbrev pub decreases-inner_constraint : goal.decreases-inner_constraint
decreases-inner_constraint l = 8 * l.depth + 2

abbrev pub decreases-applied : goal.decreases-applied
decreases-applied l = 8 * l.depth + 1

abbrev pub decreases-dotted : goal.decreases-dotted
decreases-dotted l = 8 * l.depth + 1

abbrev pub decreases-marker : goal.decreases-marker
decreases-marker l = 8 * l.depth + 4
