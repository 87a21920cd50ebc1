use Rattle.std.proofs.Common.{◌+◌, ◌∷◌, ◌∙◌, length, refl, sym, ap, subst, inl, inr}
use Rattle.asn1_schema.specs.declared.misfit.MisfitKind.TheVariants.{NoPart, OtherPart}
use Rattle.asn1_schema.specs.Pieces.{Piece, Parts}
use Rattle.asn1_x690.specs.Der.{any_value}
use Rattle.asn1_x690_encode.specs.declared.any.HeldElement.{HeldElement}
use Rattle.asn1_x690_encode.specs.Any.{piece_by, IsHeldBy}
use Rattle.asn1_x690_encode.specs.Encoding.{tape}
use Rattle.asn1_x690_encode.specs.Steps.{misfit_here, part_next, part_none}
use Rattle.asn1_x690_encode.proofs.any.encode_any.Goals as goal

pub returns-in-None : goal.returns-in-None
returns-in-None c =
    let a = c.args in
    let cx = a.context.now in
    let l = c.reject in
    let B = any_value (piece_by a.kind) a.node in
    inl (misfit_here cx B.misfit a.state.now l.new.state a.node NoPart l.ensures.next l.ensures.node l.ensures.reason
    (subst (λ (t : Parts). B.misfit t (record { node = a.node; left = length t; kind = NoPart }))
    (sym (part_none cx a.state.now.next (sym c.in-None.ensures))) refl))

pub encode_element-requires-clause-next : goal.encode_element-requires-clause-next
encode_element-requires-clause-next c =
    let a = c.args in
    let cx = a.context.now in
    let h = subst (λ (x : HeldElement). IsHeldBy a.kind c.in-Some.part.now x) c.in-Bits.is c.held_by.ensures in
    part_next cx a.state.now.next c.in-Some.part.now (sym c.in-Some.ensures)
    ∙ ap (λ (p : Piece). p ∷ tape cx (a.state.now.next + 1)) (h cx.tables.ranges.now cx.source.now)

pub returns-in-Other : goal.returns-in-Other
returns-in-Other c =
    let a = c.args in
    let cx = a.context.now in
    let l = c.reject-in-Other in
    let B = any_value (piece_by a.kind) a.node in
    let h = subst (λ (x : HeldElement). IsHeldBy a.kind c.in-Some.part.now x) c.in-Other.is c.held_by.ensures in
    inl (misfit_here cx B.misfit a.state.now l.new.state a.node OtherPart l.ensures.next l.ensures.node l.ensures.reason
    (subst (λ (t : Parts). B.misfit t (record { node = a.node; left = length t; kind = OtherPart }))
    (sym (part_next cx a.state.now.next c.in-Some.part.now (sym c.in-Some.ensures)))
    (inr (h cx.tables.ranges.now cx.source.now, refl))))
