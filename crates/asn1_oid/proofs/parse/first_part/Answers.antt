use Rattle.std.proofs.Common.{◌≡◌, ◌+◌, ℕ, List, ◌∷◌, ◌++◌, [], false, eqb, take, drop, get_or, refl, ap, sym, subst, ◌∙◌, take_all}
use Rattle.std.specs.Prelude.{All}
use Rattle.std.specs.List.{slice_split}
use Rattle.std.proofs.lemmas.Bool.{ne_eqb}
use Rattle.std.proofs.lemmas.List.{take_rest, take_more, drop_more, take-append-drop}
use Rattle.std.proofs.lemmas.List.Elements.{All-nil, All-cons, All-append}
use Rattle.std.proofs.lemmas.List.Splits.{slice_split_at, slice_split_none}
use Rattle.asn1_oid.proofs.parse.first_part.Goals as goal

pub returns-then-octet-eq46-clause-parts : goal.returns-then-octet-eq46-clause-parts
returns-then-octet-eq46-clause-parts c =
    let text : List ℕ = c.args.text.now in
    let i : ℕ = c.loop-i.i in
    let stop : get_or text i 0 ≡ 46 = c.if-octet-eq46.true in
    let parts : text ≡ take i text ++ (46 ∷ drop (i + 1) text) =
    sym (take-append-drop i text) ∙ ap (λ t. take i text ++ t)
    (drop_more text i 0 c.loop-i-test.true ∙ ap (λ b. b ∷ drop (i + 1) text) stop) in
    rw take_rest (ap (slice_split (λ b. eqb b 46)) parts
    ∙ slice_split_at (λ b. eqb b 46) (take i text) 46 (drop (i + 1) text) c.loop-i.invariant refl)

pub loop-i-preserved : goal.loop-i-preserved
loop-i-preserved c =
    let text : List ℕ = c.args.text.now in
    let i : ℕ = c.loop-i.i in
    let other : eqb (get_or text i 0) 46 ≡ false = ne_eqb (get_or text i 0) 46 c.if-octet-eq46.false in
    subst (All (λ b. eqb b 46 ≡ false)) (sym (take_more text i 0 c.loop-i-test.true))
    (All-append (λ b. eqb b 46 ≡ false) (take i text) (get_or text i 0 ∷ []) c.loop-i.invariant
    (All-cons (λ b. eqb b 46 ≡ false) (get_or text i 0) [] other (All-nil (λ b. eqb b 46 ≡ false))))

pub returns-clause-parts : goal.returns-clause-parts
returns-clause-parts c =
    slice_split_none (λ b. eqb b 46) c.args.text.now
    (subst (All (λ b. eqb b 46 ≡ false)) (take_all _ _ c.loop-i-test.false) c.loop-i.invariant)
