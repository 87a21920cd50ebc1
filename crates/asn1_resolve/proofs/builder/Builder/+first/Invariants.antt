use Rattle.std.proofs.Common.{◌+◌, ◌*◌}
use Rattle.asn1_resolve.proofs.builder.Builder.+first.Given as goal

abbrev pub decreases-add_first_tags : goal.decreases-add_first_tags
decreases-add_first_tags l = 2 * l.steps + 0

abbrev pub decreases-add_alternative_tags : goal.decreases-add_alternative_tags
decreases-add_alternative_tags l = 2 * l.steps + 1
