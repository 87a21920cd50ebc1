use Rattle.std.proofs.Common.{◌≡◌, ◌<◌, length, true, arith}
use Rattle.std.proofs.lemmas.Option.{slice_get_within}
use Rattle.asn1_schema.specs.declared.part.Part.TheVariants.{Additions}
use Rattle.asn1_schema_values.proofs.ComponentLemmas.{is_true, no_additions, addition_if}
use Rattle.asn1_schema_values.proofs.value.Value.addition.Goals as goal

pub returns-in_err-it : goal.returns-in_err-it
returns-in_err-it c =
    let none = c.in_err-it.ensures in
    rw c.from_residual.ensures (λ v is. none is.root is.additions is.count true is.sequence)

pub returns-in_err-added : goal.returns-in_err-added
returns-in_err-added c =
    let it = c.in_ok-it.it in
    let extended : it.is_extended ≡ true = is_true it.is_extended c.if-not-it.false in
    rw c.from_residual-in_err-added.ensures (no_additions c.args.self.now c.args.name.now it.root it.additions it.count
    (rw extended at c.in_ok-it.ensures) c.in_ok-place.place (rw c.in_ok-from.ensures at c.in_ok-place.ensures)
    c.in_err-added.ensures)

pub returns-in_err-first : goal.returns-in_err-first
returns-in_err-first c =
    let parts = c.args.self.now.message.now.parts.now in
    let place = c.in_ok-place.place in
    let inside : place < length parts = slice_get_within parts place (Additions c.in_ok-added.added) c.in_ok-added.ensures in
    absurd (omega (arith, c.in_err-first.ensures))

pub returns : goal.returns
returns c =
    let it = c.in_ok-it.it in
    let extended : it.is_extended ≡ true = is_true it.is_extended c.if-not-it.false in
    addition_if c.args.self.now c.args.name.now it.root it.additions it.count (rw extended at c.in_ok-it.ensures)
    c.in_ok-place.place (rw c.in_ok-from.ensures at c.in_ok-place.ensures) c.in_ok-added.added c.in_ok-added.ensures
    c.member_value.result (rw c.in_ok-first.ensures at c.member_value.ensures)
