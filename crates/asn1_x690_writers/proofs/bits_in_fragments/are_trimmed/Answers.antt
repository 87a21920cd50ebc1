use Rattle.std.proofs.Common.{◌≡◌, ℕ, ◌+◌, ◌-◌, true, [], ◌∷◌, length, take, drop, refl, sym, ap, ◌∙◌, subst, arith}
use Rattle.asn1_bits.specs.Bits.{bits, number}
use Rattle.asn1_bits.specs.Laws.DigitLaws.{length-bits}
use Rattle.asn1_schema.specs.PiecesOfParts.{bits_at, joined}
use Rattle.asn1_x690.specs.Leaves.{AreTrimmed}
use Rattle.asn1_x691_writers.specs.JoinedSteps.{whole_list}
use Rattle.asn1_x691_fields.specs.TrimmedSteps.{last_one, last_zero}
use Rattle.asn1_x690_writers.specs.FragmentSteps.{has_head, first_of_head, one_or_zero}
use Rattle.asn1_x690_writers.proofs.bits_in_fragments.are_trimmed.Goals as goal

pub skip-end-requires-clause-within : goal.skip-end-requires-clause-within
skip-end-requires-clause-within c = omega (arith, c.requires.all, ap length c.all_of-all.ensures.same)

pub bit_at-requires : goal.bit_at-requires
bit_at-requires c =
    let list = joined 1 (bits c.args.source.now) c.args.fragments in
    let same = c.skip-end.ensures.same ∙ ap (drop (c.args.count - 1)) c.all_of-all.ensures.same in
    let h = has_head list c.args.count (c.args.count - 1) c.with_head-last.result.head.count (omega (arith, c.if-count-least.false))
    (omega (arith, c.requires.all)) (λ z. sym same ∙ c.with_head-last.ensures.none z) in
    omega (arith, h, c.with_head-last.ensures.inside)

pub returns-clause-yes : goal.returns-clause-yes
returns-clause-yes c e =
    let a = c.args in
    let list = joined 1 (bits a.source.now) a.fragments in
    let last = c.with_head-last.result in
    let same = c.skip-end.ensures.same ∙ ap (drop (a.count - 1)) c.all_of-all.ensures.same in
    let h = has_head list a.count (a.count - 1) last.head.count (omega (arith, c.if-count-least.false))
    (omega (arith, c.requires.all)) (λ z. sym same ∙ c.with_head-last.ensures.none z) in
    let at : a.count - 1 ≡ 0 + a.count - 1 = omega arith in
    let bit : bits_at list (0 + a.count - 1) 1 ≡ c.bit_at.result ∷ [] =
    sym (ap (λ (k : ℕ). bits_at list k 1) at) ∙ ap (take 1) (sym (c.with_head-last.ensures.same ∙ same))
    ∙ first_of_head 1 (bits a.source.now) last h (omega (arith, c.with_head-last.ensures.inside, length-bits a.source.now)) ∙ c.bit_at.ensures in
    subst (AreTrimmed true a.size) (whole_list list a.count c.requires.all)
    (last_one list 0 a.count (omega (arith, c.requires.all)) a.size (omega (arith, c.if-count-least.false, c.least_of-least.ensures))
    (number (bits_at list (0 + a.count - 1) 1)) refl (one_or_zero (bits_at list (0 + a.count - 1) 1) c.bit_at.result bit ∙ e))

pub returns-clause-no : goal.returns-clause-no
returns-clause-no c e t =
    let a = c.args in
    let list = joined 1 (bits a.source.now) a.fragments in
    let last = c.with_head-last.result in
    let same = c.skip-end.ensures.same ∙ ap (drop (a.count - 1)) c.all_of-all.ensures.same in
    let h = has_head list a.count (a.count - 1) last.head.count (omega (arith, c.if-count-least.false))
    (omega (arith, c.requires.all)) (λ z. sym same ∙ c.with_head-last.ensures.none z) in
    let at : a.count - 1 ≡ 0 + a.count - 1 = omega arith in
    let bit : bits_at list (0 + a.count - 1) 1 ≡ c.bit_at.result ∷ [] =
    sym (ap (λ (k : ℕ). bits_at list k 1) at) ∙ ap (take 1) (sym (c.with_head-last.ensures.same ∙ same))
    ∙ first_of_head 1 (bits a.source.now) last h (omega (arith, c.with_head-last.ensures.inside, length-bits a.source.now)) ∙ c.bit_at.ensures in
    last_zero list 0 a.count (omega (arith, c.requires.all)) a.size (omega (arith, c.if-count-least.false, c.least_of-least.ensures))
    (number (bits_at list (0 + a.count - 1) 1)) refl (one_or_zero (bits_at list (0 + a.count - 1) 1) c.bit_at.result bit ∙ e)
    (subst (AreTrimmed true a.size) (sym (whole_list list a.count c.requires.all)) t)
