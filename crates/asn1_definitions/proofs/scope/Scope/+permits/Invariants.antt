use Rattle.std.proofs.Common.{◌+◌, ◌*◌}
use Rattle.asn1_definitions.proofs.scope.Scope.+permits.Given as goal

abbrev pub decreases-of_element : goal.decreases-of_element
decreases-of_element l = 2 * l.steps + 0

abbrev pub decreases-of_set : goal.decreases-of_set
decreases-of_set l = 2 * l.steps + 1

abbrev pub decreases-permitted : goal.decreases-permitted
decreases-permitted l = 2 * l.steps + 0
