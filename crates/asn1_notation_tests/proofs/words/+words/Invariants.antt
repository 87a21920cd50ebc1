use Rattle.std.proofs.Common.{◌+◌, ◌*◌}
use Rattle.asn1_notation_tests.proofs.words.+words.Given as goal

abbrev pub decreases-push_type : goal.decreases-push_type
decreases-push_type l = 2 * l.depth + 0

abbrev pub decreases-push_members : goal.decreases-push_members
decreases-push_members l = 2 * l.depth + 1
