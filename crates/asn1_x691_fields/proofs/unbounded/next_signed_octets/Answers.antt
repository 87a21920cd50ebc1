use Rattle.std.proofs.Common.{◌*◌, ap, length, take, drop, inl, inr, ◌∙◌, sym, arith}
use Rattle.asn1_bits.specs.Bits.{bits, number as number_of}
use Rattle.asn1_bits.specs.Laws.DigitLaws.{length-bits}
use Rattle.asn1_x691.specs.declared.fault.FaultKind.TheVariants.{NotMinimal}
use Rattle.asn1_x691_fields.specs.Outcomes.{rest, fault_of}
use Rattle.asn1_x691_fields.specs.Steps.{fault_at}
use Rattle.asn1_x691_fields.specs.FirstBits.{nine_zeros, nine_ones, nine_differ}
use Rattle.asn1_x691_fields.specs.NumberSteps.{IsFewest, IsTooLong, signed_starts, signed_fault, far_enough}
use Rattle.asn1_x691_fields.proofs.unbounded.next_signed_octets.Goals as goal
use Rattle.asn1_x691_fields.proofs.unbounded.next_signed_octets.Goals.{Joined-count-gt1, then-first-eq0-via-then-first-eq0, then-first-eq0-via-else-first-eq0+then-first-eq511, then-count-gt1+else-first-eq0+else-first-eq511, else-count-gt1}

pub number_at-first-requires-clause-within : goal.number_at-first-requires-clause-within
number_at-first-requires-clause-within c =
    omega (arith, length-bits c.args.octets.now, c.in_ok-at.ensures.at, c.in_ok-at.ensures.onward.inside, c.in_ok-at.ensures.onward.ends)

pub returns-then-first-eq0-clause-read : goal.returns-then-first-eq0-clause-read
returns-then-first-eq0-clause-read c =
    let count = c.args.count in
    let list = bits c.args.octets.now in
    let front = take (8 * count) (drop c.in_ok-at.at list) in
    let long : IsTooLong count (number_of front) = elim c.then-first-eq0.branch [
      | then-first-eq0-via-then-first-eq0 w ↦
          inl (nine_zeros list c.in_ok-at.at count c.if-count-gt1.true
          (omega (arith, c.in_ok-at.ensures.at, c.in_ok-at.ensures.onward.inside, c.in_ok-at.ensures.onward.ends))
          (sym c.number_at-first.ensures ∙ w.if-first-eq0.true))
      | then-first-eq0-via-else-first-eq0+then-first-eq511 w ↦
          inr (nine_ones list c.in_ok-at.at count c.if-count-gt1.true
          (omega (arith, c.in_ok-at.ensures.at, c.in_ok-at.ensures.onward.inside, c.in_ok-at.ensures.onward.ends))
          (sym c.number_at-first.ensures ∙ w.if-first-eq511.true))
    ] in
    signed_fault count c.args.node (rest list c.args.state.now) front (rest list c.next_bits.new.state) c.in_ok-at.ensures.read
    (fault_of c.fail.new.state) c.if-count-gt1.true long
    (fault_at list c.next_bits.new.state c.fail.new.state c.args.node NotMinimal c.in_ok-at.ensures.onward.inside
    c.fail.ensures.at c.fail.ensures.end c.fail.ensures.node c.fail.ensures.kind)

is_fewest : (c : Joined-count-gt1)
    → IsFewest c.args.count (number_of (take (8 * c.args.count) (drop c.in_ok-at.at (bits c.args.octets.now))))
is_fewest c = elim c.if-count-gt1.branch [
  | then-count-gt1+else-first-eq0+else-first-eq511 w ↦
      inr (nine_differ (bits c.args.octets.now) c.in_ok-at.at c.args.count w.if-count-gt1.true
      (omega (arith, c.in_ok-at.ensures.at, c.in_ok-at.ensures.onward.inside, c.in_ok-at.ensures.onward.ends))
      (λ e. w.if-first-eq0.false (w.number_at-first.ensures ∙ e)) (λ e. w.if-first-eq511.false (w.number_at-first.ensures ∙ e)))
  | else-count-gt1 w ↦ inl w.if-count-gt1.false
]

pub returns-clause-read : goal.returns-clause-read
returns-clause-read c =
    let count = c.args.count in
    let list = bits c.args.octets.now in
    let front = take (8 * count) (drop c.in_ok-at.at list) in
    signed_starts count c.args.node (rest list c.args.state.now) front (rest list c.next_bits.new.state) c.in_ok-at.ensures.read
    c.requires.some (is_fewest c)

pub returns-clause-fewest : goal.returns-clause-fewest
returns-clause-fewest c many =
    let s = c.in_ok-at.ensures.read in
    far_enough c.args.count (take (8 * c.args.count) (drop c.in_ok-at.at (bits c.args.octets.now)))
    (ap length s.encoded.1 ∙ s.encoded.0) (omega (arith, many)) (is_fewest c)
