use Rattle.std.proofs.Common.{arith, ◌≡◌, ◌+◌, pos, length, drop, sym, ap, subst, ◌∙◌}
use Rattle.std.proofs.lemmas.Grind.{common_steps}
use Rattle.std.proofs.lemmas.List.{drop-drop}
use Rattle.std.specs.List.{flat_map}
use Rattle.asn1_number.specs.Octets.{IsShortest, IsShortestUnsigned}
use Rattle.asn1_number.specs.Storage.{octets_in, IsEndOfKept}
use Rattle.asn1_number.proofs.integer_bytes.IntegerBytes.without_sign.Goals as goal

pub overflow_add-start : goal.overflow_add-start
overflow_add-start c =
    let v : drop c.in-Words.start (flat_map (λ w. w) c.in-Words.words) ≡ c.args.self = ap octets_in (sym c.in-Words.is)
    ∙ c.self.view_is in
    let kept = subst IsEndOfKept c.in-Words.is c.self.invariant in
    let all : c.in-Words.start + length c.args.self ≡ length (flat_map (λ w. w) c.in-Words.words) = grind (arith, common_steps) in
    omega (arith, kept, all, c.leading_sign_octets-skipped.ensures.within, ap length c.as_ref.ensures)

pub returns-in-Words : goal.returns-in-Words
returns-in-Words c = λ n s.
    let v : drop c.in-Words.start (flat_map (λ w. w) c.in-Words.words) ≡ c.args.self = ap octets_in (sym c.in-Words.is)
    ∙ c.self.view_is in
    let skipped = c.leading_sign_octets-skipped.ensures.shortest n (subst (IsShortest (pos n)) (sym c.as_ref.ensures) s) in
    subst (IsShortestUnsigned n) (ap (drop c.leading_sign_octets-skipped.result) (c.as_ref.ensures ∙ sym v)
    ∙ drop-drop c.leading_sign_octets-skipped.result c.in-Words.start (flat_map (λ w. w) c.in-Words.words)) skipped

pub overflow_add-result : goal.overflow_add-result
overflow_add-result c =
    let v : drop c.in-Copied.first c.in-Copied.octets ≡ c.args.self = ap octets_in (sym c.in-Copied.is)
    ∙ c.self.view_is in
    let kept = subst IsEndOfKept c.in-Copied.is c.self.invariant in
    let all : c.in-Copied.first + length c.args.self ≡ length c.in-Copied.octets = grind (arith, common_steps) in
    omega (arith, kept, all, c.leading_sign_octets-skipped.ensures.within, ap length c.as_ref.ensures)

pub returns-in-Copied : goal.returns-in-Copied
returns-in-Copied c = λ n s.
    let v : drop c.in-Copied.first c.in-Copied.octets ≡ c.args.self = ap octets_in (sym c.in-Copied.is)
    ∙ c.self.view_is in
    let skipped = c.leading_sign_octets-skipped.ensures.shortest n (subst (IsShortest (pos n)) (sym c.as_ref.ensures) s) in
    subst (IsShortestUnsigned n) (ap (drop c.leading_sign_octets-skipped.result) (c.as_ref.ensures ∙ sym v)
    ∙ drop-drop c.leading_sign_octets-skipped.result c.in-Copied.first c.in-Copied.octets) skipped

pub returns-in-Borrowed : goal.returns-in-Borrowed
returns-in-Borrowed c = λ n s.
    let v : c.in-Borrowed.octets.now ≡ c.args.self = ap octets_in (sym c.in-Borrowed.is) ∙ c.self.view_is in
    let e : c.borrowed.result ≡ drop c.leading_sign_octets-skipped.result c.as_ref.result.now =
    grind (arith, common_steps) in
    subst (IsShortestUnsigned n) (sym e)
    (c.leading_sign_octets-skipped.ensures.shortest n (subst (IsShortest (pos n)) (sym c.as_ref.ensures) s))

pub invariant_of-t-12 : goal.invariant_of-t-12
invariant_of-t-12 c = grind (arith, common_steps)
