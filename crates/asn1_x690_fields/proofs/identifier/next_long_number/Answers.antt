use Rattle.std.proofs.Common.{◌∙◌, sym, subst, ℕ, Bool, Some, inl, inr, arith}
use Rattle.std.proofs.Math.Dec.{leb}
use Rattle.std.proofs.lemmas.Bool.{leb-true, leb-false}
use Rattle.asn1_bits.specs.Bits.{bits}
use Rattle.asn1_x690.specs.declared.fault.FaultKind.TheVariants.{NotMinimal}
use Rattle.asn1_x690_fields.specs.Outcomes.{rest, fault_of}
use Rattle.asn1_x690_fields.specs.Steps.{fault_at}
use Rattle.asn1_x690_fields.proofs.NumberSteps.{IsRun, run_begins, run_on, run_fails, run_not_minimal}
use Rattle.asn1_x690_fields.proofs.identifier.next_long_number.Goals as goal
use Rattle.asn1_x690_fields.proofs.identifier.next_long_number.Goals.{then-first-eq128-via-then-first-eq128, then-first-eq128-via-else-first-eq128+then-is_below_31}

pub loop-is_more-init : goal.loop-is_more-init
loop-is_more-init c =
    let list = bits c.args.octets.now in
    let first = c.in_ok-first.first in (
      c.in_ok-first.ensures.onward,
      subst (λ (n : ℕ). IsRun c.args.node (rest list c.args.state.now) (rest list c.next_octet.new.state) first (Some n) (leb 128 first))
          (sym c.from.ensures)
          (run_begins c.args.node (rest list c.args.state.now) (rest list c.next_octet.new.state) first c.in_ok-first.ensures.read (leb 128 first)
          (leb-true 128 first) (leb-false 128 first)),
    )

pub returns-in-None-clause-read : goal.returns-in-None-clause-read
returns-in-None-clause-read c =
    let list = bits c.args.octets.now in
    let now = c.loop-is_more.state in
    run_fails c.args.node (rest list c.args.state.now) (rest list now) c.in_ok-first.first c.loop-is_more.number
    (subst (λ (b : Bool). IsRun c.args.node (rest list c.args.state.now) (rest list now) c.in_ok-first.first c.loop-is_more.number b)
    c.loop-is_more-test.true c.loop-is_more.invariant.1) (fault_of c.next_octet-in-loop-is_more.new.state)
    c.in-None.ensures.read

pub loop-is_more-preserved : goal.loop-is_more-preserved
loop-is_more-preserved c =
    let list = bits c.args.octets.now in
    let now = c.loop-is_more.state in
    let mid = c.next_octet-in-loop-is_more.new.state in
    let octet = c.in-Some.octet in
    let was = c.loop-is_more.invariant.0 in
    let did = c.in-Some.ensures.onward in (
      record {
        same_end = did.same_end ∙ was.same_end;
        same_count = did.same_count ∙ was.same_count;
        on = omega (arith, did.on, was.on);
        ends = did.ends;
        inside = did.inside;
      },
      run_on c.args.node (rest list c.args.state.now) (rest list now) (rest list mid) c.in_ok-first.first c.loop-is_more.number
          c.with_digit-number.result
          (subst (λ (b : Bool). IsRun c.args.node (rest list c.args.state.now) (rest list now) c.in_ok-first.first c.loop-is_more.number b)
          c.loop-is_more-test.true c.loop-is_more.invariant.1)
          octet c.in-Some.ensures.read c.with_digit-number.ensures (leb 128 octet) (leb-true 128 octet) (leb-false 128 octet),
    )

pub returns-then-first-eq128-clause-read : goal.returns-then-first-eq128-clause-read
returns-then-first-eq128-clause-read c =
    let list = bits c.args.octets.now in
    let now = c.loop-is_more.state in
    run_not_minimal c.args.node (rest list c.args.state.now) (rest list now) c.in_ok-first.first c.loop-is_more.number
    (subst (λ (b : Bool). IsRun c.args.node (rest list c.args.state.now) (rest list now) c.in_ok-first.first c.loop-is_more.number b)
    c.loop-is_more-test.false c.loop-is_more.invariant.1) (fault_of c.fail.new.state)
    (elim c.then-first-eq128.branch [
      | then-first-eq128-via-then-first-eq128 w ↦ inl w.if-first-eq128.true
      | then-first-eq128-via-else-first-eq128+then-is_below_31 w ↦ inr (w.is_below_31.ensures.yes w.if-is_below_31.true)
    ])
    (fault_at list now c.fail.new.state c.args.node NotMinimal c.loop-is_more.invariant.0.inside c.fail.ensures.at
    c.fail.ensures.end c.fail.ensures.node c.fail.ensures.kind)
