use Rattle.std.proofs.Common.{◌≡◌, ℕ, ◌+◌, ◌-◌, ◌*◌, List, sym, ◌∙◌, ap, subst, arith}
use Rattle.asn1_bits.specs.Bits.{bits}
use Rattle.asn1_x691.specs.Alphabets.{HasCode}
use Rattle.asn1_x691_fields.specs.Characters.{character_by, AreCodes}
use Rattle.asn1_x691_fields.specs.TextSteps.{first_number}
use Rattle.asn1_x691_fields.proofs.code_runs.are_each_codes.Goals as goal

one_more : (width left more : ℕ) → more + 1 ≡ left → width * left ≡ width * more + width
one_more width left more e =
    let f : width * (more + 1) ≡ width * more + width = omega arith in
    ap (λ (n : ℕ). width * n) (sym e) ∙ f

pub returns-then-not-has_code-clause-no : goal.returns-then-not-has_code-clause-no
returns-then-not-has_code-clause-no c e p =
    let a = c.args.alphabet.now in
    let l = c.loop-left in
    let apart = first_number a.width l.left (l.left - 1) l.next (bits c.args.octets.now) (omega (arith, c.loop-left-test.true)) in
    let h = (subst (λ (codes : List ℕ). AreCodes a codes) apart (l.invariant.not_before p)).0 in
    c.has_code.ensures.no c.if-not-has_code.true (character_by a.are_numbers a.ranges.now c.number_at.result)
    (subst (λ (n : ℕ). HasCode a.is_aligned a.ranges.now n (character_by a.are_numbers a.ranges.now n)) (sym c.number_at.ensures) h)

pub loop-left-preserved : goal.loop-left-preserved
loop-left-preserved c =
    let a = c.args.alphabet.now in
    let l = c.loop-left in
    let apart = first_number a.width l.left (l.left - 1) l.next (bits c.args.octets.now) (omega (arith, c.loop-left-test.true)) in
    let h = subst (λ (n : ℕ). HasCode a.is_aligned a.ranges.now n (character_by a.are_numbers a.ranges.now n)) c.number_at.ensures
    (c.has_code.ensures.yes c.if-not-has_code.false) in
    record {
      index = omega (arith, l.invariant.index, one_more a.width l.left (l.left - 1) (omega (arith, c.loop-left-test.true)));
      others = λ p. l.invariant.others (subst (λ (codes : List ℕ). AreCodes a codes) (sym apart) (h, p));
      not_before = λ p. (subst (λ (codes : List ℕ). AreCodes a codes) apart (l.invariant.not_before p)).1;
    }
