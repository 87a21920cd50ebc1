use Rattle.std.proofs.Common.{◌+◌, ◌*◌}
use Rattle.asn1.proofs.show.Shown.+showing.Given as goal

abbrev pub decreases-type_at : goal.decreases-type_at
decreases-type_at l = 8 * l.depth + 0

abbrev pub decreases-used : goal.decreases-used
decreases-used l = 8 * l.depth + 1

abbrev pub decreases-members : goal.decreases-members
decreases-members l = 8 * l.depth + 2
