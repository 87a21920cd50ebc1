use Rattle.std.proofs.Common.{◌≡◌, ℕ, List, ◌-◌, ◌+◌, ◌*◌, sym, ◌∙◌, ap, subst, arith}
use Rattle.asn1_bits.specs.Bits.{bits}
use Rattle.asn1_x690.specs.Leaves.{AreIn, IsIn}
use Rattle.asn1_x690_leaves.specs.TextSteps.{first_number}
use Rattle.asn1_x690_leaves.proofs.texts.are_numbers_in.Goals as goal

pub returns-then-not-is_in-clause-no : goal.returns-then-not-is_in-clause-no
returns-then-not-is_in-clause-no c e p =
    let list = bits c.args.octets.now in
    let l = c.loop-left in
    let some = c.loop-left-test.true in
    let split = first_number c.args.text.width l.left (l.left - 1) l.at list (omega (arith, some)) in
    let q = subst (λ (xs : List ℕ). AreIn c.args.ranges.now xs) split (l.invariant.no p) in
    c.is_in.ensures.no c.if-not-is_in.true (subst (λ (n : ℕ). IsIn c.args.ranges.now n) (sym c.read_bits.ensures.number) q.0)

pub loop-left-preserved : goal.loop-left-preserved
loop-left-preserved c =
    let list = bits c.args.octets.now in
    let l = c.loop-left in
    let some = c.loop-left-test.true in
    let w = c.args.text.width in
    let split = first_number w l.left (l.left - 1) l.at list (omega (arith, some)) in
    let first = subst (λ (n : ℕ). IsIn c.args.ranges.now n) c.read_bits.ensures.number (c.is_in.ensures.yes c.if-not-is_in.false) in
    let left : l.left ≡ (l.left - 1) + 1 = omega (arith, some) in
    let more : w * l.left ≡ w * (l.left - 1) + w = ap (λ (n : ℕ). w * n) left ∙ omega arith in
    record {
      index = (let i = l.invariant.index in omega (arith, i, more));
      yes = λ p. l.invariant.yes (subst (λ (xs : List ℕ). AreIn c.args.ranges.now xs) (sym split) (first, p));
      no = λ p. (subst (λ (xs : List ℕ). AreIn c.args.ranges.now xs) split (l.invariant.no p)).1;
    }
