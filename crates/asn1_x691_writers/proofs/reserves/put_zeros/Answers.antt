use Rattle.std.proofs.Common.{◌≡◌, ℕ, ◌+◌, ◌-◌, List, Bool, sym, subst, ap, ◌∙◌, arith}
use Rattle.asn1_bits.specs.Bits.{digits}
use Rattle.asn1_x691_writers.specs.Written.{IsGrown}
use Rattle.asn1_x691_writers.specs.GrownSteps.{grown_none, grown_both}
use Rattle.asn1_x691_writers.specs.SetSteps.{zeros_apart}
use Rattle.asn1_x691_writers.proofs.reserves.put_zeros.Goals as goal

pub loop-left-init : goal.loop-left-init
unfolding digits
loop-left-init c =
    let e : 0 ≡ c.args.count - c.args.count = omega arith in
    record {
      few = omega arith;
      grown = subst (λ (k : ℕ). IsGrown c.args.octets.now c.args.at c.args.octets.now c.args.at (digits 0 k)) e
          (grown_none c.args.octets.now c.args.at);
    }

pub loop-left-preserved : goal.loop-left-preserved
loop-left-preserved c =
    let done = c.args.count - c.loop-left.left in
    let e : done + 57 ≡ c.args.count - (c.loop-left.left - 57) = omega (arith, c.loop-left.invariant.few, c.loop-left-test.true) in
    record {
      few = omega (arith, c.loop-left.invariant.few);
      grown = subst
          (λ (l : List Bool). IsGrown c.args.octets.now c.args.at c.put_number-next.new.octets c.put_number-next.result l)
          (sym (zeros_apart done 57) ∙ ap (λ (k : ℕ). digits 0 k) e)
          (grown_both c.args.octets.now c.loop-left.octets c.put_number-next.new.octets c.args.at c.loop-left.next c.put_number-next.result
          (digits 0 done) (digits 0 57) c.loop-left.invariant.grown c.put_number-next.ensures);
    }

pub returns : goal.returns
returns c =
    let done = c.args.count - c.loop-left.left in
    let e : done + c.loop-left.left ≡ c.args.count = omega (arith, c.loop-left.invariant.few) in
    subst (λ (l : List Bool). IsGrown c.args.octets.now c.args.at c.put_number.new.octets c.put_number.result l)
    (sym (zeros_apart done c.loop-left.left) ∙ ap (λ (k : ℕ). digits 0 k) e)
    (grown_both c.args.octets.now c.loop-left.octets c.put_number.new.octets c.args.at c.loop-left.next c.put_number.result
    (digits 0 done) (digits 0 c.loop-left.left) c.loop-left.invariant.grown c.put_number.ensures)
