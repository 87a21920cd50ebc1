use Rattle.std.proofs.Common.{◌-◌, ◌*◌, ◌^◌, ◌<◌, ◌≤◌, refl, inl, ℕ}
use Rattle.std.specs.Prelude.{◌⊎◌}
use Rattle.asn1_schema.specs.Encodings.{Encoding, number, constant, invalid, cases}
use Rattle.asn1_x691.specs.declared.fault.FaultKind.{FaultKind}
use Rattle.asn1_x691.specs.declared.fault.FaultKind.TheVariants.{Short, NotMinimal}
use Rattle.asn1_x691_writers.specs.FieldSteps.{number_written, then_constant}
use Rattle.asn1_x691_writers.proofs.numbers.put_minimal.Goals as goal

pub returns : goal.returns
returns c aligned node =
    let was = c.args.octets.now in
    let now = c.put_wide.new.octets in
    let new = c.put_wide.result in
    let n = c.args.n in
    let count = c.args.count in
    let tested : ℕ → Encoding FaultKind ℕ = λ d.
    cases ((count ≤ 1) ⊎ (2 ^ (8 * (count - 1)) ≤ d)) (constant d) ((1 < count) × (d < 2 ^ (8 * (count - 1)))) (invalid NotMinimal node) in
    then_constant aligned was now c.args.at new (number (8 * count) Short node) (λ d m. m) tested n n
    (number_written aligned (8 * count) node Short n was now c.args.at new c.requires.minimal.below c.put_wide.ensures)
    (inl (c.requires.minimal.fewest, (refl, refl)))
