use Rattle.std.proofs.Common.{◌≡◌, ◌++◌, List, ℕ, append-nil, sym, ap, subst, ◌∙◌}
use Rattle.field_lines.specs.Answer.{Answer, IsAnswer, IsOnly}
use Rattle.asn1_fields.proofs.tests.answer_of.Goals as goal

pub returns : goal.returns
returns c =
    let a = c.in_ok-status.ensures.answer in
    let text : List ℕ = a.0 in
    let answer : Answer = a.1 in
    let input : c.args.input.now ≡ text = a.2 ∙ ap (λ (l : List ℕ). text ++ l) c.in_ok-status.ensures.end
    ∙ append-nil text in
    let output : answer.text ≡ c.run.new.output.items =
    sym (a.4 ∙ ap (λ (l : List ℕ). l ++ answer.text) c.new-output.ensures.items) in
    let status : answer.status ≡ c.in_ok-status.status = sym a.5 in
    let made : Answer = record { text = c.run.new.output.items; status = c.in_ok-status.status } in
    let is : answer ≡ made = λ i. record { text = output i; status = status i } in
    subst (λ (l : List ℕ). IsOnly (IsAnswer l) made) (sym input)
    (subst (λ (x : Answer). IsOnly (IsAnswer text) x) is a.3)
