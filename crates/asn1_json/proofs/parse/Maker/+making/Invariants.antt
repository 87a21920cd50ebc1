use Rattle.std.proofs.Common.{◌+◌, ◌*◌}
use Rattle.asn1_json.proofs.parse.Maker.+making.Given as goal

abbrev pub decreases-value : goal.decreases-value
decreases-value l = 8 * l.depth + 0

abbrev pub decreases-sequence : goal.decreases-sequence
decreases-sequence l = 8 * l.depth + 5

abbrev pub decreases-components : goal.decreases-components
decreases-components l = 8 * l.depth + 3

abbrev pub decreases-component : goal.decreases-component
decreases-component l = 8 * l.depth + 2

abbrev pub decreases-group : goal.decreases-group
decreases-group l = 8 * l.depth + 1

abbrev pub decreases-additions : goal.decreases-additions
decreases-additions l = 8 * l.depth + 4

abbrev pub decreases-list : goal.decreases-list
decreases-list l = 8 * l.depth + 1

abbrev pub decreases-choice : goal.decreases-choice
decreases-choice l = 8 * l.depth + 1

abbrev pub decreases-open : goal.decreases-open
decreases-open l = 8 * l.depth + 2

abbrev pub decreases-contents_by : goal.decreases-contents_by
decreases-contents_by l = 8 * l.depth + 1
