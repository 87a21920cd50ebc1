use Rattle.std.proofs.Common.{◌<◌, ◌≤◌, arith}
use Rattle.asn1_bits.specs.Bits.{bits}
use Rattle.asn1_x691.specs.declared.fault.FaultKind.TheVariants.{BelowLeast}
use Rattle.asn1_x691.specs.Fields.{length_of}
use Rattle.asn1_x691_fields.specs.Outcomes.{fault_of}
use Rattle.asn1_x691_fields.specs.Steps.{fault_at}
use Rattle.asn1_x691_fields.specs.LeafSteps.{permitted_starts, permitted_fault}
use Rattle.asn1_x691_fields.proofs.sizes.next_length_at_least.Goals as goal

pub returns-then-count-least-clause-read : goal.returns-then-count-least-clause-read
returns-then-count-least-clause-read c =
    let list = bits c.args.octets.now in
    let node = c.args.node in
    let least = c.args.least in
    let mid = c.next_length.new.state in
    permitted_fault (λ n. least ≤ n) (λ n. n < least) BelowLeast node (length_of c.args.is_aligned node) list c.args.state.now mid
    c.requires.within c.in_ok-count.ensures.onward c.in_ok-count.count c.in_ok-count.ensures.read (fault_of c.fail.new.state)
    c.if-count-least.true
    (fault_at list mid c.fail.new.state node BelowLeast c.in_ok-count.ensures.onward.inside
    c.fail.ensures.at c.fail.ensures.end c.fail.ensures.node c.fail.ensures.kind)

pub returns-clause-read : goal.returns-clause-read
returns-clause-read c =
    let least = c.args.least in
    permitted_starts (λ n. least ≤ n) (λ n. n < least) BelowLeast c.args.node (length_of c.args.is_aligned c.args.node)
    (bits c.args.octets.now) c.args.state.now c.next_length.new.state c.requires.within c.in_ok-count.ensures.onward
    c.in_ok-count.count c.in_ok-count.ensures.read (omega (arith, c.if-count-least.false))
