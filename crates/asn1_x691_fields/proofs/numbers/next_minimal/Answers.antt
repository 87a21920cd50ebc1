use Rattle.std.proofs.Common.{◌-◌, ◌*◌, ◌^◌, inl, inr}
use Rattle.std.proofs.lemmas.Nat.{pow_pos}
use Rattle.asn1_bits.specs.Bits.{bits}
use Rattle.asn1_x691.specs.declared.fault.FaultKind.TheVariants.{NotMinimal}
use Rattle.asn1_x691_fields.specs.Outcomes.{rest, fault_of}
use Rattle.asn1_x691_fields.specs.Steps.{fault_at}
use Rattle.asn1_x691_fields.specs.NumberSteps.{IsMinimal, minimal_starts, minimal_fault}
use Rattle.asn1_x691_fields.proofs.NumberLemmas.{quotient_zero, quotient_some}
use Rattle.asn1_x691_fields.proofs.numbers.next_minimal.Goals as goal
use Rattle.asn1_x691_fields.proofs.numbers.next_minimal.Goals.{else-count-gt1-via-then-count-gt1+else-n-count-eq0, else-count-gt1-via-else-count-gt1}

pub returns-then-n-count-eq0-clause-read : goal.returns-then-n-count-eq0-clause-read
returns-then-n-count-eq0-clause-read c =
    let count = c.args.count in
    let list = bits c.args.octets.now in
    let mid = c.next_number.new.state in
    let low = quotient_zero c.in_ok-n.n (2 ^ (8 * (count - 1))) (pow_pos (8 * (count - 1))) c.if-n-count-eq0.true in
    minimal_fault count c.args.node (rest list c.args.state.now) (rest list mid) c.in_ok-n.n c.in_ok-n.ensures.read
    (fault_of c.fail.new.state) c.if-count-gt1.true low
    (fault_at list mid c.fail.new.state c.args.node NotMinimal c.in_ok-n.ensures.onward.inside
    c.fail.ensures.at c.fail.ensures.end c.fail.ensures.node c.fail.ensures.kind)

pub returns-clause-read : goal.returns-clause-read
returns-clause-read c =
    let count = c.args.count in
    let list = bits c.args.octets.now in
    let few : IsMinimal count c.in_ok-n.n = elim c.else-count-gt1.branch [
      | else-count-gt1-via-then-count-gt1+else-n-count-eq0 w ↦
          inr (quotient_some c.in_ok-n.n (2 ^ (8 * (count - 1))) (pow_pos (8 * (count - 1))) w.if-n-count-eq0.false)
      | else-count-gt1-via-else-count-gt1 w ↦ inl w.if-count-gt1.false
    ] in
    minimal_starts count c.args.node (rest list c.args.state.now) (rest list c.next_number.new.state) c.in_ok-n.n
    c.in_ok-n.ensures.read few
