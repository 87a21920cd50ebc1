use Rattle.std.proofs.lemmas.Bool.{eqb-true}
use Rattle.asn1_x691_fields.specs.FragmentSteps.{one_piece}
use Rattle.asn1_x691_fields.proofs.long_strings.are_in_one_piece.Goals as goal

pub returns-then-fragments-eq0 : goal.returns-then-fragments-eq0
returns-then-fragments-eq0 c unit list empty =
    one_piece unit list c.args.fragments c.if-fragments-eq0.true (eqb-true c.args.fragments.middle.count 0 empty)
