use Rattle.std.proofs.Common.{◌≡◌, ◌∙◌, ap, sym, ◌<◌, ◌-◌, Some, Option, ℕ, arith}
use Rattle.std.specs.Prelude.{slice_get}
use Rattle.asn1_schema.specs.declared.tables.Node.{Node}
use Rattle.asn1_schema.specs.declared.tables.Node.TheVariants.{Open}
use Rattle.asn1_builder.specs.Drafts.{type_through, value_type}
use Rattle.asn1_builder.proofs.DraftLemmas.{not_open, through}
use Rattle.asn1_builder.proofs.expected.type_of.Goals as goal

pub returns-in_default : goal.returns-in_default
returns-in_default c =
    let t = c.args.tables.now in
    let l = c.loop-left in
    let n = c.in_ok-found.found in
    let inside : ℕ → Option Node = type_through (l.left - 1) t in
    let there : slice_get t.nodes.now l.at ≡ Some n = sym c.in_ok-found.ensures in
    let some : 0 < l.left = omega arith in
    sym (sym l.invariant ∙ through t l.left l.at some ∙ ap (value_type inside) there ∙ not_open inside n c.in_default.not-Open)

pub loop-left-preserved : goal.loop-left-preserved
loop-left-preserved c =
    let t = c.args.tables.now in
    let l = c.loop-left in
    let n = c.in_ok-found.found in
    let inside : ℕ → Option Node = type_through (l.left - 1) t in
    let here : slice_get t.nodes.now l.at ≡ Some n = sym c.in_ok-found.ensures in
    let there : slice_get t.nodes.now l.at ≡ Some (Open c.in-Open.inner) = here ∙ ap (λ (x : Node). Some x) c.in-Open.is in
    let some : 0 < l.left = omega arith in
    sym (through t l.left l.at some ∙ ap (value_type inside) there) ∙ l.invariant
