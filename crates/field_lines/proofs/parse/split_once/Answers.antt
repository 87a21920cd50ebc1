use Rattle.std.proofs.Common.{◌≡◌, ◌+◌, ◌-◌, eqb, length, take, drop, take_all, length-drop, position, rules, tests, sym, ◌∙◌, arith}
use Rattle.std.proofs.lemmas.Iterator.{YieldsList-from_slice}
use Rattle.std.proofs.lemmas.Iterator.Search.{position_from_yields_List}
use Rattle.field_lines.proofs.PartLemmas.{no_cut, cut_at}
use Rattle.field_lines.proofs.parse.split_once.Goals as goal
use Rattle.field_lines.proofs.parse.split_once.Goals.{After-position}

-- the index is that of the first such octet
place : (c : After-position) → c.position.result ≡ position (λ octet. eqb octet c.args.separator) c.args.text.now
place c =
    position_from_yields_List (λ octet. eqb octet c.args.separator) _ _ c.position.result c.position.ensures.ran
    (YieldsList-from_slice c.args.text.now cc) (λ x b q k. search (rules, tests))

pub returns-in_err-at-clause-none : goal.returns-in_err-at-clause-none
returns-in_err-at-clause-none c =
    rw c.from_residual.ensures
    (no_cut (λ octet. eqb octet c.args.separator) c.args.text.now
    (sym c.in_err-at.was ∙ place (goal.at.returns-in_err-at-clause-none c).After-position))

pub returns-clause-some : goal.returns-clause-some
returns-clause-some c =
    let text = c.args.text.now in
    let at = c.in_ok-at.at in
    let rest = drop (at + 1) text in
    let all : take (length text - (at + 1)) rest ≡ rest = take_all _ rest (simp length-drop (omega arith)) in
    rw all
    (cut_at (λ octet. eqb octet c.args.separator) text at
    (sym c.in_ok-at.was ∙ place (goal.at.returns-clause-some c).After-position))
