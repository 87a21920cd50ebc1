-- Answers for the encoders of src/group.rt.
use Rattle.std.proofs.Common.{◌≡◌, ◌+◌, ◌∷◌, false, refl, sym, ap, ◌∙◌, arith}
use Rattle.std.proofs.lemmas.Option.{slice_get_within}
use Rattle.asn1_schema.specs.declared.part.Part.{Part}
use Rattle.asn1_schema.specs.Pieces.{Sequence}
use Rattle.asn1_x690.specs.Der as der
use Rattle.asn1_x690.specs.Der.{BeginsWith as MayBegin}
use Rattle.asn1_x690.specs.TypeContents.{perhaps}
use Rattle.asn1_x691_writers.specs.Put.{piece_in}
use Rattle.asn1_x690_encode.specs.Encoding.{added_in, grouped_in, tables_of, tape, types}
use Rattle.asn1_x690_encode.specs.GroupSteps.{prefixed_outcome, other_prefix}
use Rattle.asn1_x690_encode.specs.Steps.{part_next, stopped_on}
use Rattle.asn1_x690_encode.specs.ToldSteps.{absent_done, absent_clash, present_misfit, perhaps_done, present_clash, told_stopped}
use Rattle.asn1_x690_encode.proofs.+encoding.Goals as goal

-- ---- a group that is absent

pub encode_group-returns-then-begins_with : goal.group::encode_group-returns-then-begins_with
encode_group-returns-then-begins_with t c =
    let a = c.args in
    let cx = a.context.now in
    let F = added_in cx a.depth a.node a.others in
    let G = grouped_in cx a.depth a.node a.group a.others in
    let C = MayBegin cx.tags.tags.now a.first in
    let x = a.others.count in
    let was = a.octets.now in
    let old = a.state.now in
    let k = c.encode_known in
    let f = c.in_ok-begins.ensures in
    let l = c.reject in
    absent_clash cx C a.node G F x was old k.new.octets k.new.state (record old { next = old.next + 1 })
    (c.is_absent.ensures.absent c.if-is_absent.true) refl c.in_ok-begins.begins f (c.begins_with.ensures.yes f.list f.fills.1 c.if-begins_with.true)
    l.new.state l.ensures.next l.ensures.node l.ensures.reason

pub encode_group-returns-then-is_absent : goal.group::encode_group-returns-then-is_absent
encode_group-returns-then-is_absent t c =
    let a = c.args in
    let cx = a.context.now in
    let F = added_in cx a.depth a.node a.others in
    let G = grouped_in cx a.depth a.node a.group a.others in
    let C = MayBegin cx.tags.tags.now a.first in
    let x = a.others.count in
    let was = a.octets.now in
    let old = a.state.now in
    let k = c.encode_known in
    let f = c.in_ok-begins.ensures in
    absent_done cx C a.node G F x was old k.new.octets k.new.state (record old { next = old.next + 1 })
    (c.is_absent.ensures.absent c.if-is_absent.true) refl c.in_ok-begins.begins f (c.begins_with.ensures.no f.list f.fills.1 c.if-begins_with.false)

-- ---- a group that is present

pub encode_group-returns-in_err-begins-2 : goal.group::encode_group-returns-in_err-begins-2
encode_group-returns-in_err-begins-2 t c =
    let a = c.args in
    let cx = a.context.now in
    let F = added_in cx a.depth a.node a.others in
    let G = grouped_in cx a.depth a.node a.group a.others in
    let C = MayBegin cx.tags.tags.now a.first in
    let x = a.others.count in
    let was = a.octets.now in
    let old = a.state.now in
    let k = c.encode_grouped in
    let D = perhaps C a.node G F in
    let there = c.is_absent.ensures.present c.if-is_absent.false in
    told_stopped cx D x was old k.new.octets k.new.state c.from_residual-in_err-begins-2.result c.from_residual-in_err-begins-2.ensures
    (stopped_on cx (G.misfit x) (D.misfit x) old old k.new.state
    (λ e w. present_misfit cx C a.node G F x was old k.new.octets k.new.state there e w) c.in_err-begins-2.ensures)

pub encode_group-returns-then-not-begins_with : goal.group::encode_group-returns-then-not-begins_with
encode_group-returns-then-not-begins_with t c =
    let a = c.args in
    let cx = a.context.now in
    let F = added_in cx a.depth a.node a.others in
    let G = grouped_in cx a.depth a.node a.group a.others in
    let C = MayBegin cx.tags.tags.now a.first in
    let x = a.others.count in
    let was = a.octets.now in
    let old = a.state.now in
    let k = c.encode_grouped in
    let l = c.reject-then-not-begins_with in
    let g = c.in_ok-begins-2.ensures in
    present_clash cx C a.node G F x was old k.new.octets k.new.state (c.is_absent.ensures.present c.if-is_absent.false) c.in_ok-begins-2.begins g
    (c.begins_with-2.ensures.no g.list g.fills.1 c.if-not-begins_with.true) l.new.state l.ensures.next l.ensures.node l.ensures.reason

pub encode_group-returns : goal.group::encode_group-returns
encode_group-returns t c =
    let a = c.args in
    let cx = a.context.now in
    let F = added_in cx a.depth a.node a.others in
    let G = grouped_in cx a.depth a.node a.group a.others in
    let C = MayBegin cx.tags.tags.now a.first in
    let x = a.others.count in
    let was = a.octets.now in
    let old = a.state.now in
    let k = c.encode_grouped in
    let g = c.in_ok-begins-2.ensures in
    perhaps_done cx C a.node G F x was old k.new.octets k.new.state (c.is_absent.ensures.present c.if-is_absent.false) c.in_ok-begins-2.begins g
    (c.begins_with-2.ensures.yes g.list g.fills.1 c.if-not-begins_with.false)

-- ---- its components after their part

pub encode_grouped-returns-then-not-is_sequence : goal.group::encode_grouped-returns-then-not-is_sequence
encode_grouped-returns-then-not-is_sequence t c =
    let a = c.args in
    let cx = a.context.now in
    let F = der.components (types cx a.depth) (tables_of cx) a.node a.group.count a.group.from (added_in cx a.depth a.node a.others) in
    let l = c.reject-then-not-is_sequence in
    let p = c.in-Some.part.now in
    other_prefix cx (Sequence a.group.count false) a.node F a.others.count a.state.now l.new.state l.ensures.next l.ensures.node
    (piece_in cx.tables.ranges.now cx.source.now p) (tape cx (a.state.now.next + 1))
    (part_next cx a.state.now.next p (sym c.in-Some.ensures))
    (c.is_sequence.ensures.other cx.tables.ranges.now cx.source.now c.if-not-is_sequence.true) l.ensures.reason

pub encode_grouped-overflow_add-state : goal.group::encode_grouped-overflow_add-state
encode_grouped-overflow_add-state t c =
    let w = slice_get_within c.args.context.now.parts.now c.args.state.now.next c.in-Some.part.now (sym c.in-Some.ensures) in
    omega (arith, w, c.requires.parts)

pub encode_grouped-returns : goal.group::encode_grouped-returns
encode_grouped-returns t c =
    let a = c.args in
    let cx = a.context.now in
    let F = der.components (types cx a.depth) (tables_of cx) a.node a.group.count a.group.from (added_in cx a.depth a.node a.others) in
    let k = c.encode_components in
    let old = a.state.now in
    let e : tape cx old.next ≡ Sequence a.group.count false ∷ tape cx (old.next + 1) =
    part_next cx old.next c.in-Some.part.now (sym c.in-Some.ensures)
    ∙ ap (λ (p : Part). piece_in cx.tables.ranges.now cx.source.now p ∷ tape cx (old.next + 1)) (c.is_sequence.ensures.is c.if-not-is_sequence.false) in
    prefixed_outcome cx (Sequence a.group.count false) a.node F a.others.count old a.octets.now (record old { next = old.next + 1 })
    k.new.octets k.new.state k.result e refl k.ensures
