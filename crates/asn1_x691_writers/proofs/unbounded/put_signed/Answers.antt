use Rattle.std.proofs.Common.{◌*◌, ◌∙◌}
use Rattle.std.specs.Int.{w128}
use Rattle.std.proofs.lemmas.Int.{to_z-of_z}
use Rattle.asn1_x691.specs.declared.fault.FaultKind.TheVariants.{Short}
use Rattle.asn1_x691_writers.specs.FieldSteps.{number_written}
use Rattle.asn1_x691_writers.specs.SignedSteps.{signed_written}
use Rattle.asn1_x691_writers.proofs.unbounded.put_signed.Goals as goal

pub returns : goal.returns
returns c aligned node =
    let was = c.args.octets.now in
    let now = c.put_wide.new.octets in
    let new = c.put_wide.result in
    let d = c.signed_digits.result in
    let same = to_z-of_z w128 c.args.z c.ranges.z in
    signed_written aligned c.args.count node d c.args.z was now c.args.at new c.requires.some c.requires.below c.requires.fewest
    (λ u e. c.signed_digits.ensures.positive u (same ∙ e)) (λ u e. c.signed_digits.ensures.negative u (same ∙ e))
    (number_written aligned (8 * c.args.count) node Short d was now c.args.at new c.signed_digits.ensures.digits c.put_wide.ensures)
