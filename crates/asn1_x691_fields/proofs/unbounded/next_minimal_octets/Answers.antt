use Rattle.std.proofs.Common.{◌≡◌, ℕ, ◌-◌, ◌*◌, ◌^◌, ◌≤◌, take, drop, inl, inr, ◌∙◌, sym, subst, arith}
use Rattle.asn1_bits.specs.Bits.{bits, number as number_of}
use Rattle.asn1_bits.specs.Laws.DigitLaws.{length-bits}
use Rattle.asn1_x691.specs.declared.fault.FaultKind.TheVariants.{NotMinimal}
use Rattle.asn1_x691_fields.specs.Outcomes.{rest, fault_of}
use Rattle.asn1_x691_fields.specs.Steps.{fault_at}
use Rattle.asn1_x691_fields.specs.FirstBits.{octet_zero, octet_some}
use Rattle.asn1_x691_fields.specs.NumberSteps.{IsMinimal, minimal_starts, minimal_fault, number_of_bits}
use Rattle.asn1_x691_fields.proofs.unbounded.next_minimal_octets.Goals as goal
use Rattle.asn1_x691_fields.proofs.unbounded.next_minimal_octets.Goals.{Joined-else-count-gt1, else-count-gt1-via-then-count-gt1+else-number_at-eq0, else-count-gt1-via-else-count-gt1}

pub number_at-requires-clause-within : goal.number_at-requires-clause-within
number_at-requires-clause-within c =
    omega (arith, length-bits c.args.octets.now, c.in_ok-at.ensures.at, c.in_ok-at.ensures.onward.inside, c.in_ok-at.ensures.onward.ends)

pub returns-then-number_at-eq0-clause-read : goal.returns-then-number_at-eq0-clause-read
returns-then-number_at-eq0-clause-read c =
    let count = c.args.count in
    let node = c.args.node in
    let list = bits c.args.octets.now in
    let front = take (8 * count) (drop c.in_ok-at.at list) in
    let start = rest list c.args.state.now in
    let mid = c.next_bits.new.state in
    let low =
    octet_zero list c.in_ok-at.at count c.if-count-gt1.true
    (omega (arith, c.in_ok-at.ensures.at, c.in_ok-at.ensures.onward.inside, c.in_ok-at.ensures.onward.ends))
    (sym c.number_at.ensures ∙ c.if-number_at-eq0.true) in
    minimal_fault count node start (rest list mid) (number_of front)
    (number_of_bits (8 * count) node start front (rest list mid) c.in_ok-at.ensures.read)
    (fault_of c.fail.new.state) c.if-count-gt1.true low
    (fault_at list mid c.fail.new.state node NotMinimal c.in_ok-at.ensures.onward.inside
    c.fail.ensures.at c.fail.ensures.end c.fail.ensures.node c.fail.ensures.kind)

is_minimal : (c : Joined-else-count-gt1)
    → IsMinimal c.args.count (number_of (take (8 * c.args.count) (drop c.in_ok-at.at (bits c.args.octets.now))))
is_minimal c = elim c.else-count-gt1.branch [
  | else-count-gt1-via-then-count-gt1+else-number_at-eq0 w ↦
      inr (octet_some (bits c.args.octets.now) c.in_ok-at.at c.args.count w.if-count-gt1.true
      (omega (arith, c.in_ok-at.ensures.at, c.in_ok-at.ensures.onward.inside, c.in_ok-at.ensures.onward.ends))
      (λ e. w.if-number_at-eq0.false (w.number_at.ensures ∙ e)))
  | else-count-gt1-via-else-count-gt1 w ↦ inl w.if-count-gt1.false
]

pub returns-clause-read : goal.returns-clause-read
returns-clause-read c =
    let count = c.args.count in
    let list = bits c.args.octets.now in
    let front = take (8 * count) (drop c.in_ok-at.at list) in
    let start = rest list c.args.state.now in
    let mid = rest list c.next_bits.new.state in
    minimal_starts count c.args.node start mid (number_of front)
    (number_of_bits (8 * count) c.args.node start front mid c.in_ok-at.ensures.read) (is_minimal c)

pub returns-clause-fewest : goal.returns-clause-fewest
returns-clause-fewest c many =
    let front = take (8 * c.args.count) (drop c.in_ok-at.at (bits c.args.octets.now)) in
    let e : 8 * (c.args.count - 1) ≡ 8 * c.args.count - 8 = omega arith in
    elim (is_minimal c) [
      | inl few ↦ absurd (omega (arith, few, many))
      | inr low ↦ subst (λ (n : ℕ). 2 ^ n ≤ number_of front) e low
    ]
