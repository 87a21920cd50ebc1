use Rattle.std.proofs.Common.{◌+◌, ◌*◌}
use Rattle.asn1_json.proofs.opens.Finder.+finding.Given as goal

abbrev pub decreases-value : goal.decreases-value
decreases-value l = 8 * l.depth + 0

abbrev pub decreases-sequence : goal.decreases-sequence
decreases-sequence l = 8 * l.depth + 2

abbrev pub decreases-components : goal.decreases-components
decreases-components l = 8 * l.depth + 1

abbrev pub decreases-list : goal.decreases-list
decreases-list l = 8 * l.depth + 1
