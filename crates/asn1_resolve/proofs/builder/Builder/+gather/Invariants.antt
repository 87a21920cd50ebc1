use Rattle.std.proofs.Common.{◌+◌, ◌*◌}
use Rattle.asn1_resolve.proofs.builder.Builder.+gather.Given as goal

abbrev pub decreases-gather_root : goal.decreases-gather_root
decreases-gather_root l = 2 * l.steps + 0

abbrev pub decreases-gather_of : goal.decreases-gather_of
decreases-gather_of l = 2 * l.steps + 1
