use Rattle.std.proofs.Common.{refl, inl}
use Rattle.asn1_schema.specs.Encodings.{number}
use Rattle.asn1_x691.specs.declared.fault.FaultKind.TheVariants.{Short}
use Rattle.asn1_x691.specs.Fields.{up_to}
use Rattle.asn1_x691_writers.specs.FieldSteps.{number_written, then_constant}
use Rattle.asn1_x691_writers.proofs.numbers.put_in_bits.Goals as goal

pub returns : goal.returns
returns c aligned most node h =
    let was = c.args.octets.now in
    let now = c.put_wide.new.octets in
    let new = c.put_wide.result in
    let n = c.args.n in
    then_constant aligned was now c.args.at new (number c.args.width Short node) (λ d m. m) (λ d. up_to most node d) n n
    (number_written aligned c.args.width node Short n was now c.args.at new c.requires.below c.put_wide.ensures) (inl (h, (refl, refl)))
