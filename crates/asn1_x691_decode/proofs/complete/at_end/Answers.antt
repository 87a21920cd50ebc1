use Rattle.std.proofs.Common.{sym, ◌∙◌, ap, arith, inr}
use Rattle.asn1_bits.specs.Bits.{bits, number}
use Rattle.asn1_bits.specs.Laws.DigitLaws.{length-bits}
use Rattle.asn1_x691.specs.declared.fault.FaultKind.TheVariants.{NotZero}
use Rattle.asn1_x691_fields.specs.Outcomes.{rest}
use Rattle.asn1_x691_fields.specs.Steps.{rest_length, fault_at}
use Rattle.asn1_x691_decode.proofs.OpenSteps.{rest_taken, all_zeros, not_zeros}
use Rattle.asn1_x691_decode.proofs.complete.at_end.Goals as goal

pub read_bits-requires-clause-within : goal.read_bits-requires-clause-within
read_bits-requires-clause-within c =
    omega (arith, length-bits c.args.octets.now, c.requires.within.inside, c.requires.within.ends, c.if-state-zeros.false)

pub returns-then-read_bits-ne0-clause-ends : goal.returns-then-read_bits-ne0-clause-ends
returns-then-read_bits-ne0-clause-ends c =
    let list = bits c.args.octets.now in
    let s = c.args.state.now in
    let n = c.padding_of-zeros.result in
    let size = rest_length list s c.requires.within.inside in
    let taken = rest_taken list s n (omega (arith, c.requires.within.ends, c.if-state-zeros.false)) in
    let f = c.fail-then-read_bits-ne0 in
    inr (
      size ∙ c.if-state-zeros.false ∙ c.padding_of-zeros.ensures.value,
      not_zeros (rest list s) c.read_bits.result (c.read_bits.ensures.number ∙ ap number (sym taken)) c.if-read_bits-ne0.true,
      fault_at list s f.new.state c.args.node NotZero c.requires.within.inside f.ensures.at f.ensures.end f.ensures.node f.ensures.kind,
    )

pub returns-clause-ends : goal.returns-clause-ends
returns-clause-ends c =
    let list = bits c.args.octets.now in
    let s = c.args.state.now in
    let n = c.padding_of-zeros.result in
    let size = rest_length list s c.requires.within.inside in
    let taken = rest_taken list s n (omega (arith, c.requires.within.ends, c.if-state-zeros.false)) in (
      size ∙ c.if-state-zeros.false ∙ c.padding_of-zeros.ensures.value,
      all_zeros (rest list s) c.read_bits.result n (c.read_bits.ensures.digits ∙ sym taken) (size ∙ c.if-state-zeros.false)
          c.if-read_bits-ne0.false,
    )
