use Rattle.std.proofs.Common.{◌++◌, ◌<◌, ◌≤◌, inr}
use Rattle.asn1_bits.specs.Bits.{bits}
use Rattle.asn1_x691.specs.declared.fault.FaultKind.TheVariants.{BelowLeast}
use Rattle.asn1_x691.specs.Characters.{characters}
use Rattle.asn1_x691.specs.Fragments.{all_units}
use Rattle.asn1_x691.specs.Strings.{where_size}
use Rattle.asn1_x691_fields.specs.Characters.{characters_at}
use Rattle.asn1_x691_fields.specs.Outcomes.{fault_of}
use Rattle.asn1_x691_fields.specs.Steps.{turn_fault, fault_at}
use Rattle.asn1_x691_fields.specs.StringSteps.{sized_starts}
use Rattle.asn1_x691_fields.proofs.sized_texts.next_long_text.Goals as goal

pub returns-then-count-least-clause-read : goal.returns-then-count-least-clause-read
returns-then-count-least-clause-read c =
    let list = bits c.args.octets.now in
    let a = c.args.alphabet.now in
    let node = c.args.node in
    let least = c.args.least in
    let mid = c.next_counted_characters.new.state in
    turn_fault list c.args.state.now mid c.requires.within c.in_ok-count.ensures.onward
    (all_units (characters a.is_aligned a.ranges.now node) (λ x y. x ++ y) a.is_aligned node 0)
    (λ v text. text) (λ v. where_size (λ n. least ≤ n) (λ n. n < least) BelowLeast node v)
    (c.in_ok-count.count, characters_at a list c.in_ok-count.at c.in_ok-count.count) c.in_ok-count.ensures.read
    (fault_of c.fail.new.state)
    (inr (
      c.if-count-least.true,
      fault_at list mid c.fail.new.state node BelowLeast c.in_ok-count.ensures.onward.inside
          c.fail.ensures.at c.fail.ensures.end c.fail.ensures.node c.fail.ensures.kind,
    ))

pub returns-clause-read : goal.returns-clause-read
returns-clause-read c =
    let a = c.args.alphabet.now in
    let list = bits c.args.octets.now in
    sized_starts (all_units (characters a.is_aligned a.ranges.now c.args.node) (λ x y. x ++ y) a.is_aligned c.args.node 0) c.args.node
    (λ n. c.args.least ≤ n) (λ n. n < c.args.least) BelowLeast list c.args.state.now c.next_counted_characters.new.state c.requires.within c.in_ok-count.ensures.onward
    (c.in_ok-count.count, characters_at a list c.in_ok-count.at c.in_ok-count.count) c.in_ok-count.ensures.read c.if-count-least.false
