use Rattle.std.proofs.Common.{◌+◌, ◌*◌}
use Rattle.asn1_definitions.proofs.object_sets.Objects.+objects.Given as goal

abbrev pub decreases-next_object : goal.decreases-next_object
decreases-next_object l = 3 * l.steps + 2

abbrev pub decreases-leaves : goal.decreases-leaves
decreases-leaves l = 3 * l.steps + 1

abbrev pub decreases-has : goal.decreases-has
decreases-has l = 3 * l.steps + 0
