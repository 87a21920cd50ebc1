use Rattle.std.proofs.Common.{◌*◌, ◌<◌, ◌≤◌, inr, arith}
use Rattle.asn1_bits.specs.Bits.{bits}
use Rattle.asn1_bits.specs.Laws.DigitLaws.{length-bits}
use Rattle.asn1_schema.specs.PiecesOfParts.{bits_at}
use Rattle.asn1_x691.specs.declared.fault.FaultKind.TheVariants.{BelowLeast}
use Rattle.asn1_x691.specs.Fragments.{string}
use Rattle.asn1_x691.specs.Strings.{where_size}
use Rattle.asn1_x691_fields.specs.Outcomes.{fault_of}
use Rattle.asn1_x691_fields.specs.Steps.{turn_fault, fault_at}
use Rattle.asn1_x691_fields.specs.StringSteps.{sized_starts}
use Rattle.asn1_x691_fields.proofs.sized_strings.next_long_string.Goals as goal

pub returns-then-count-least-clause-read : goal.returns-then-count-least-clause-read
returns-then-count-least-clause-read c =
    let list = bits c.args.octets.now in
    let node = c.args.node in
    let unit = c.args.unit in
    let least = c.args.least in
    let mid = c.next_units.new.state in
    turn_fault list c.args.state.now mid c.requires.within c.in_ok-count.ensures.onward (string 0 c.args.is_aligned unit node)
    (λ v bits. bits) (λ v. where_size (λ n. least ≤ n) (λ n. n < least) BelowLeast node v)
    (c.in_ok-count.count, bits_at list c.in_ok-count.at (unit * c.in_ok-count.count)) c.in_ok-count.ensures.read
    (fault_of c.fail.new.state)
    (inr (
      c.if-count-least.true,
      fault_at list mid c.fail.new.state node BelowLeast c.in_ok-count.ensures.onward.inside
          c.fail.ensures.at c.fail.ensures.end c.fail.ensures.node c.fail.ensures.kind,
    ))

pub returns-clause-inside : goal.returns-clause-inside
returns-clause-inside c =
    omega (
      arith,
      length-bits c.args.octets.now,
      c.in_ok-count.ensures.index,
      c.in_ok-count.ensures.onward.ends,
      c.in_ok-count.ensures.onward.inside,
    )

pub returns-clause-read : goal.returns-clause-read
returns-clause-read c =
    sized_starts (string 0 c.args.is_aligned c.args.unit c.args.node) c.args.node (λ n. c.args.least ≤ n) (λ n. n < c.args.least) BelowLeast (bits c.args.octets.now)
    c.args.state.now c.next_units.new.state c.requires.within c.in_ok-count.ensures.onward
    (c.in_ok-count.count, bits_at (bits c.args.octets.now) c.in_ok-count.at (c.args.unit * c.in_ok-count.count)) c.in_ok-count.ensures.read
    c.if-count-least.false
