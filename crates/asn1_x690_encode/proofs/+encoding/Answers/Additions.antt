-- Answers for the encoders of src/additions.rt.
use Rattle.std.proofs.Common.{ℕ, ◌+◌, ◌∷◌, true, length, refl, sym, ap, ◌∙◌, subst, inl, inr, Some, None}
use Rattle.std.specs.Prelude.{not}
use Rattle.asn1_schema.specs.declared.misfit.MisfitKind.TheVariants.{NoPart, OtherPart}
use Rattle.asn1_schema.specs.declared.part.Part.{Part}
use Rattle.asn1_schema.specs.Pieces.{Parts}
use Rattle.asn1_x690.specs.declared.fault.FaultKind.{FaultKind}
use Rattle.asn1_x690.specs.TypeContents.{ToldContents}
use Rattle.asn1_x691_writers.specs.Put.{piece_in}
use Rattle.asn1_x690_encode.specs.AdditionSteps.{added_fails, added_by, none_added}
use Rattle.asn1_x690_encode.specs.Encoding.{ToldOutcome, added_in, extension_in, tape}
use Rattle.asn1_x690_encode.specs.GroupSteps.{none_known, first_addition}
use Rattle.asn1_x690_encode.specs.Steps.{misfit_here, part_next, part_none}
use Rattle.asn1_x690_encode.specs.ToldSteps.{told_stopped}
use Rattle.asn1_x690_encode.proofs.+encoding.Goals as goal

pub encode_additions-returns-in-None : goal.additions::encode_additions-returns-in-None
encode_additions-returns-in-None t c =
    let a = c.args in
    let cx = a.context.now in
    let l = c.reject in
    let W = (extension_in cx a.depth a.node a.known).misfit true in
    inl (misfit_here cx W a.state.now l.new.state a.node NoPart l.ensures.next l.ensures.node l.ensures.reason
    (subst (λ (k : Parts). W k (record { node = a.node; left = length k; kind = NoPart }))
    (sym (part_none cx a.state.now.next (sym c.in-None.ensures))) (inl refl)))

pub encode_additions-returns-in-None-additions_of : goal.additions::encode_additions-returns-in-None-additions_of
encode_additions-returns-in-None-additions_of t c =
    let a = c.args in
    let cx = a.context.now in
    let l = c.reject-in-None-additions_of in
    let W = (extension_in cx a.depth a.node a.known).misfit true in
    inl (misfit_here cx W a.state.now l.new.state a.node OtherPart l.ensures.next l.ensures.node l.ensures.reason
    (subst (λ (k : Parts). W k (record { node = a.node; left = length k; kind = OtherPart }))
    (sym (part_next cx a.state.now.next c.in-Some.part.now (sym c.in-Some.ensures)))
    (inl (inr (c.in-None-additions_of.ensures cx.tables.ranges.now cx.source.now, refl)))))

pub encode_additions-returns-in_err-begins-in-Some-additions_of : goal.additions::encode_additions-returns-in_err-begins-in-Some-additions_of
encode_additions-returns-in_err-begins-in-Some-additions_of t c =
    let a = c.args in
    let cx = a.context.now in
    let old = a.state.now in
    let k = c.encode_known in
    let n = c.in-Some-additions_of.count in
    let G = added_in cx a.depth a.node (record { rows = a.known; known = a.known.count; count = n }) in
    let is = part_next cx old.next c.in-Some.part.now (sym c.in-Some.ensures)
    ∙ ap (λ (p : Part). piece_in cx.tables.ranges.now cx.source.now p ∷ tape cx (old.next + 1)) c.in-Some-additions_of.ensures in
    told_stopped cx (extension_in cx a.depth a.node a.known) true a.octets.now old k.new.octets k.new.state c.from_residual.result
    c.from_residual.ensures
    (added_fails cx a.node G n a.octets.now old k.new.octets k.new.state (record old { next = old.next + 1 }) is refl
    c.in_err-begins-in-Some-additions_of.ensures)

pub encode_additions-returns-then-is_none : goal.additions::encode_additions-returns-then-is_none
encode_additions-returns-then-is_none t c =
    let a = c.args in
    let cx = a.context.now in
    let old = a.state.now in
    let k = c.encode_known in
    let l = c.reject-then-is_none in
    let n = c.in-Some-additions_of.count in
    let G = added_in cx a.depth a.node (record { rows = a.known; known = a.known.count; count = n }) in
    let is = part_next cx old.next c.in-Some.part.now (sym c.in-Some.ensures)
    ∙ ap (λ (p : Part). piece_in cx.tables.ranges.now cx.source.now p ∷ tape cx (old.next + 1)) c.in-Some-additions_of.ensures in
    none_added cx a.node G n a.octets.now old k.new.octets k.new.state (record old { next = old.next + 1 }) is refl
    c.in_ok-begins-in-Some-additions_of.begins (c.is_none.ensures ∙ ap not c.if-is_none.true) c.in_ok-begins-in-Some-additions_of.ensures
    l.new.state l.ensures.next l.ensures.node l.ensures.reason

pub encode_additions-returns-else-is_none : goal.additions::encode_additions-returns-else-is_none
encode_additions-returns-else-is_none t c =
    let a = c.args in
    let cx = a.context.now in
    let old = a.state.now in
    let k = c.encode_known in
    let n = c.in-Some-additions_of.count in
    let G = added_in cx a.depth a.node (record { rows = a.known; known = a.known.count; count = n }) in
    let is = part_next cx old.next c.in-Some.part.now (sym c.in-Some.ensures)
    ∙ ap (λ (p : Part). piece_in cx.tables.ranges.now cx.source.now p ∷ tape cx (old.next + 1)) c.in-Some-additions_of.ensures in
    added_by cx a.node G n a.octets.now old k.new.octets k.new.state (record old { next = old.next + 1 }) is refl
    c.in_ok-begins-in-Some-additions_of.begins (c.is_none.ensures ∙ ap not c.if-is_none.false) c.in_ok-begins-in-Some-additions_of.ensures

-- ---- the additions that are left

pub encode_known-returns-then-left-eq0 : goal.additions::encode_known-returns-then-left-eq0
encode_known-returns-then-left-eq0 t c =
    let a = c.args in
    let cx = a.context.now in
    let k = c.encode_unknown in
    none_known cx a.depth a.node a.left.known
    (λ (F : ToldContents FaultKind ℕ). ToldOutcome cx F a.left.count a.octets.now a.state.now k.new.octets k.new.state k.result)
    a.left.rows.count a.left.rows.from c.if-left-eq0.true k.ensures

pub encode_addition-returns-in-None : goal.additions::encode_addition-returns-in-None
encode_addition-returns-in-None t c =
    let a = c.args in
    let cx = a.context.now in
    let k = c.encode_optional in
    let first = c.in-Some-first_tags_at.first in
    first_addition cx a.depth a.node a.left.known
    (λ (F : ToldContents FaultKind ℕ). ToldOutcome cx F a.left.count a.octets.now a.state.now k.new.octets k.new.state k.result)
    c.in-Some.member a.left.rows.count a.left.rows.from first None c.requires.some (sym c.in-Some.ensures) (sym c.in-Some-first_tags_at.ensures)
    c.in-None.is k.ensures

pub encode_addition-returns-in-Some-group : goal.additions::encode_addition-returns-in-Some-group
encode_addition-returns-in-Some-group t c =
    let a = c.args in
    let cx = a.context.now in
    let k = c.encode_group in
    let first = c.in-Some-first_tags_at.first in
    first_addition cx a.depth a.node a.left.known
    (λ (F : ToldContents FaultKind ℕ). ToldOutcome cx F a.left.count a.octets.now a.state.now k.new.octets k.new.state k.result)
    c.in-Some.member a.left.rows.count a.left.rows.from first (Some c.in-Some-group.group) c.requires.some (sym c.in-Some.ensures)
    (sym c.in-Some-first_tags_at.ensures) c.in-Some-group.is k.ensures
