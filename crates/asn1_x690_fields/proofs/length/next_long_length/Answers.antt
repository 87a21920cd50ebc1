use Rattle.std.proofs.Common.{◌≡◌, ◌+◌, ◌*◌, ◌≤◌, length, take, drop, arith, inl, inr, sym}
use Rattle.asn1_bits.specs.Bits.{bits}
use Rattle.asn1_bits.specs.Laws.DigitLaws.{length-bits}
use Rattle.asn1_x690.specs.declared.fault.FaultKind.TheVariants.{NotMinimal}
use Rattle.asn1_x690_fields.specs.Outcomes.{fault_of, rest}
use Rattle.asn1_x690_fields.specs.Steps.{fault_at}
use Rattle.asn1_x690_fields.proofs.LengthSteps.{whole, first, is_long, not_long, is_great, long_starts, long_fault}
use Rattle.asn1_x690_fields.proofs.length.next_long_length.Goals as goal

pub read_bits-first-requires-clause-within : goal.read_bits-first-requires-clause-within
read_bits-first-requires-clause-within c =
    let o = c.in_ok-at.ensures in
    omega (arith, length-bits c.args.octets.now, o.onward.ends, o.onward.inside, o.at, c.requires.count)

pub returns-then-first-least_first-clause-read : goal.returns-then-first-least_first-clause-read
returns-then-first-least_first-clause-read c =
    let list = bits c.args.octets.now in
    let o = c.in_ok-at.ensures in
    let at = c.in_ok-at.at in
    let count = c.args.count in
    let f : first list at ≡ c.read_bits-first.result = sym c.read_bits-first.ensures.number in
    let mid = c.next_octets.new.state in
    let low = c.if-first-least_first.true in
    long_fault count c.args.node (rest list c.args.state.now) (take (8 * count) (drop at list)) (rest list mid) o.read
    (fault_of c.fail.new.state)
    (not_long list at count c.least_first.result c.requires.count (omega (arith, o.onward.ends, o.onward.inside, o.at))
    c.least_first.ensures.one c.least_first.ensures.more (omega (arith, f, low)))
    (fault_at list mid c.fail.new.state c.args.node NotMinimal o.onward.inside c.fail.ensures.at c.fail.ensures.end
    c.fail.ensures.node c.fail.ensures.kind)

pub returns-then-count-gt8-clause-read : goal.returns-then-count-gt8-clause-read
returns-then-count-gt8-clause-read c =
    let list = bits c.args.octets.now in
    let o = c.in_ok-at.ensures in
    let at = c.in_ok-at.at in
    let count = c.args.count in
    let f : first list at ≡ c.read_bits-first.result = sym c.read_bits-first.ensures.number in
    let inside : at + 8 * count ≤ length list = omega (arith, o.onward.ends, o.onward.inside, o.at) in
    let high = c.if-first-least_first.false in
    let many = is_great list at count c.if-count-gt8.true inside
    (λ e. let least = c.least_first.ensures.more (λ z. omega (arith, z, c.if-count-gt8.true)) in omega (arith, e, f, high, least)) in (
      whole list at count,
      (omega (arith, many), inr (omega arith)),
      long_starts count c.args.node (rest list c.args.state.now) (take (8 * count) (drop at list)) (rest list c.next_octets.new.state) o.read
          (is_long list at count c.least_first.result c.requires.count inside c.least_first.ensures.one c.least_first.ensures.more
          (omega (arith, f, high))),
    )

pub read_wide-requires-clause-within : goal.read_wide-requires-clause-within
read_wide-requires-clause-within c =
    let o = c.in_ok-at.ensures in
    omega (arith, length-bits c.args.octets.now, o.onward.ends, o.onward.inside, o.at)

pub returns-clause-read : goal.returns-clause-read
returns-clause-read c =
    let list = bits c.args.octets.now in
    let o = c.in_ok-at.ensures in
    let at = c.in_ok-at.at in
    let count = c.args.count in
    let f : first list at ≡ c.read_bits-first.result = sym c.read_bits-first.ensures.number in
    let inside : at + 8 * count ≤ length list = omega (arith, o.onward.ends, o.onward.inside, o.at) in
    let high = c.if-first-least_first.false in
    let e : c.read_wide.result ≡ whole list at count = c.read_wide.ensures.number in (
      whole list at count,
      (omega (arith, e), inl e),
      long_starts count c.args.node (rest list c.args.state.now) (take (8 * count) (drop at list)) (rest list c.next_octets.new.state) o.read
          (is_long list at count c.least_first.result c.requires.count inside c.least_first.ensures.one c.least_first.ensures.more
          (omega (arith, f, high))),
    )
