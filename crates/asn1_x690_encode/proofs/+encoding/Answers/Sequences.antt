-- Answers for the encoders of src/sequence.rt.
use Rattle.std.proofs.Common.{rules, ◌≡◌, ◌+◌, ◌∷◌, Bool, false, length, refl, sym, ap, ◌∙◌, subst, inl, Some, arith}
use Rattle.std.specs.Prelude.{⊤}
use Rattle.std.proofs.lemmas.Option.{slice_get_within}
use Rattle.asn1_schema.specs.declared.misfit.MisfitKind.TheVariants.{NoPart, NoNode, OtherPart}
use Rattle.asn1_schema.specs.declared.part.Part.{Part}
use Rattle.asn1_schema.specs.Pieces.{Parts, Piece, Sequence}
use Rattle.asn1_x690.specs.Der as der
use Rattle.asn1_x690.specs.Der.{BeginsWith as MayBegin}
use Rattle.asn1_x690.specs.declared.fault.FaultKind.{FaultKind}
use Rattle.asn1_x690.specs.declared.fault.FaultKind.TheVariants.{Missing, NotPermitted}
use Rattle.asn1_x690.specs.TypeContents.{ToldContents, present, perhaps, told}
use Rattle.asn1_x691_writers.specs.Put.{piece_in}
use Rattle.asn1_x690_encode.specs.declared.sequence.Tail.TheVariants.{End}
use Rattle.asn1_x690_encode.specs.Encoding.{ContentsOutcome, ToldOutcome, IsStopped, IsElementOf, BeginFilled, tape, types, element_in, value_in, components_in, required_in, told_by, told_of}
use Rattle.asn1_x690_encode.specs.FirstSteps.{may_begin, may_not}
use Rattle.asn1_x690_encode.specs.NodeSteps.{none_left, at_no_member, required_first, optional_first, no_first}
use Rattle.asn1_x690_encode.specs.Steps.{misfit_here, part_next, part_none, as_value, filled_on, stopped_here, stopped_on}
use Rattle.asn1_x690_encode.specs.ToldSteps.{after_value, present_done, required_done, absent_done, absent_clash, present_misfit, perhaps_done, present_clash, told_done, told_other, told_stopped}
use Rattle.asn1_x690_encode.proofs.+encoding.Goals as goal

pub encode_components-returns-then-count-eq0 : goal.sequence::encode_components-returns-then-count-eq0
encode_components-returns-then-count-eq0 t c =
    let a = c.args in
    let cx = a.context.now in
    let k = c.encode_tail in
    none_left cx a.depth a.node a.tail.now a.count a.from
    (λ (F : ToldContents FaultKind (told_by a.tail.now)). ToldOutcome cx F (told_of a.tail.now) a.octets.now a.state.now k.new.octets k.new.state k.result)
    c.if-count-eq0.true k.ensures

pub encode_first-returns-then-is_required : goal.sequence::encode_first-returns-then-is_required
encode_first-returns-then-is_required t c =
    let a = c.args in
    let cx = a.context.now in
    let k = c.encode_required in
    required_first cx a.depth a.node a.tail.now a.count a.from c.in-Some.member
    (λ (F : ToldContents FaultKind (told_by a.tail.now)). ToldOutcome cx F (told_of a.tail.now) a.octets.now a.state.now k.new.octets k.new.state k.result)
    c.requires.some (sym c.in-Some.ensures) (sym c.is_required.ensures ∙ c.if-is_required.true) k.ensures

pub encode_first-returns : goal.sequence::encode_first-returns
encode_first-returns t c =
    let a = c.args in
    let cx = a.context.now in
    let k = c.encode_optional in
    optional_first cx a.depth a.node a.tail.now a.count a.from c.in-Some.member
    (λ (F : ToldContents FaultKind (told_by a.tail.now)). ToldOutcome cx F (told_of a.tail.now) a.octets.now a.state.now k.new.octets k.new.state k.result)
    c.requires.some (sym c.in-Some.ensures) c.in-Some-first_tags_at.first (sym c.is_required.ensures ∙ c.if-is_required.false)
    (sym c.in-Some-first_tags_at.ensures) k.ensures

pub encode_first-returns-in_default : goal.sequence::encode_first-returns-in_default
encode_first-returns-in_default t c =
    let a = c.args in
    let cx = a.context.now in
    let l = c.reject in
    at_no_member cx a.depth a.node a.tail.now a.count a.from
    (λ (F : ToldContents FaultKind (told_by a.tail.now)). IsStopped cx (F.misfit (told_of a.tail.now)) a.state.now l.new.state)
    c.requires.some (sym c.member_at.ensures ∙ c.in_default.is)
    (inl (misfit_here cx ((der.no_member a.node).misfit (told_of a.tail.now)) a.state.now l.new.state a.node NoNode l.ensures.next l.ensures.node l.ensures.reason refl))

pub encode_first-returns-in_default-first_tags_at : goal.sequence::encode_first-returns-in_default-first_tags_at
encode_first-returns-in_default-first_tags_at t c =
    let a = c.args in
    let cx = a.context.now in
    let l = c.reject-in_default-first_tags_at in
    no_first cx a.depth a.node a.tail.now a.count a.from c.in-Some.member
    (λ (F : ToldContents FaultKind (told_by a.tail.now)). IsStopped cx (F.misfit (told_of a.tail.now)) a.state.now l.new.state)
    c.requires.some (sym c.in-Some.ensures) (sym c.is_required.ensures ∙ c.if-is_required.false)
    (sym c.first_tags_at.ensures ∙ c.in_default-first_tags_at.is)
    (inl (misfit_here cx ((der.no_member a.node).misfit (told_of a.tail.now)) a.state.now l.new.state a.node NoNode l.ensures.next l.ensures.node l.ensures.reason refl))

pub encode_first-overflow_add-from : goal.sequence::encode_first-overflow_add-from
encode_first-overflow_add-from t c =
    let w = slice_get_within c.args.context.now.tables.members.now c.args.from c.in-Some.member (sym c.in-Some.ensures) in
    omega (arith, w)

pub encode_first-overflow_add-from-2 : goal.sequence::encode_first-overflow_add-from-2
encode_first-overflow_add-from-2 t c =
    let w = slice_get_within c.args.context.now.tables.members.now c.args.from c.in-Some.member (sym c.in-Some.ensures) in
    omega (arith, w)

-- ---- a component that must be present

pub encode_required-encode_components-requires : goal.sequence::encode_required-encode_components-requires
encode_required-encode_components-requires t c =
    let a = c.args in
    let k = c.encode_node_here in
    let e = c.in_ok-found.ensures in (
      search rules,
      (
        omega (arith, k.auto.octets, c.requires.size),
        (
          c.requires.source,
          (
            c.requires.parts,
            (
              filled_on a.context.now (IsElementOf (types a.context.now a.depth a.inner) c.in_ok-found.found) a.octets.now a.state.now k.new.octets k.new.state e
                  c.requires.whole,
              c.requires.few,
            ),
          ),
        ),
      ),
    )

pub encode_required-returns-in_err-encode_components : goal.sequence::encode_required-returns-in_err-encode_components
encode_required-returns-in_err-encode_components t c =
    let a = c.args in
    let cx = a.context.now in
    let A = element_in cx a.depth a.inner in
    let F = components_in cx a.depth a.node a.count a.from a.tail.now in
    let x = told_of a.tail.now in
    let n = c.encode_node_here in
    let k = c.encode_components in
    let v = as_value cx a.inner (types cx a.depth a.inner) a.octets.now a.state.now n.new.octets n.new.state (Some c.in_ok-found.found) c.in_ok-found.ensures in
    let D = required_in cx a.depth a.node a.inner a.count a.from a.tail.now in
    told_stopped cx D x a.octets.now a.state.now k.new.octets k.new.state c.from_residual-in_err-encode_components.result c.from_residual-in_err-encode_components.ensures
    (stopped_on cx (F.misfit x) (D.misfit x) a.state.now n.new.state k.new.state
    (after_value cx A F x a.octets.now a.state.now n.new.octets n.new.state c.in_ok-found.found v) c.in_err-encode_components.ensures)

pub encode_required-returns : goal.sequence::encode_required-returns
encode_required-returns t c =
    let a = c.args in
    let cx = a.context.now in
    let A = element_in cx a.depth a.inner in
    let F = components_in cx a.depth a.node a.count a.from a.tail.now in
    let x = told_of a.tail.now in
    let n = c.encode_node_here in
    let k = c.encode_components in
    let found = c.in_ok-found.found in
    let v = as_value cx a.inner (types cx a.depth a.inner) a.octets.now a.state.now n.new.octets n.new.state (Some found) c.in_ok-found.ensures in
    required_done cx Missing a.inner (present A F) x a.octets.now a.state.now k.new.octets k.new.state found
    (present_done cx A F x a.octets.now a.state.now n.new.octets n.new.state found v k.new.octets k.new.state _ c.in_ok-encode_components.ensures)

-- ---- a component that may be absent

pub encode_optional-returns-then-begins_with : goal.sequence::encode_optional-returns-then-begins_with
encode_optional-returns-then-begins_with t c =
    let a = c.args in
    let cx = a.context.now in
    let A = value_in cx a.depth a.node a.presence a.inner in
    let F = components_in cx a.depth a.node a.count a.from a.tail.now in
    let G = present A F in
    let C = MayBegin cx.tags.tags.now a.first in
    let x = told_of a.tail.now in
    let was = a.octets.now in
    let old = a.state.now in
    let k = c.encode_components in
    let f = c.in_ok-begins.ensures in
    let l = c.reject in
    absent_clash cx C a.node G F x was old k.new.octets k.new.state (record old { next = old.next + 1 })
    (c.is_absent.ensures.absent c.if-is_absent.true) refl c.in_ok-begins.begins f (c.begins_with.ensures.yes f.list f.fills.1 c.if-begins_with.true)
    l.new.state l.ensures.next l.ensures.node l.ensures.reason

pub encode_optional-returns-then-is_absent : goal.sequence::encode_optional-returns-then-is_absent
encode_optional-returns-then-is_absent t c =
    let a = c.args in
    let cx = a.context.now in
    let A = value_in cx a.depth a.node a.presence a.inner in
    let F = components_in cx a.depth a.node a.count a.from a.tail.now in
    let G = present A F in
    let C = MayBegin cx.tags.tags.now a.first in
    let x = told_of a.tail.now in
    let was = a.octets.now in
    let old = a.state.now in
    let k = c.encode_components in
    let f = c.in_ok-begins.ensures in
    absent_done cx C a.node G F x was old k.new.octets k.new.state (record old { next = old.next + 1 })
    (c.is_absent.ensures.absent c.if-is_absent.true) refl c.in_ok-begins.begins f (c.begins_with.ensures.no f.list f.fills.1 c.if-begins_with.false)

pub encode_optional-returns-in_err-found : goal.sequence::encode_optional-returns-in_err-found
encode_optional-returns-in_err-found t c =
    let a = c.args in
    let cx = a.context.now in
    let A = value_in cx a.depth a.node a.presence a.inner in
    let F = components_in cx a.depth a.node a.count a.from a.tail.now in
    let G = present A F in
    let C = MayBegin cx.tags.tags.now a.first in
    let x = told_of a.tail.now in
    let was = a.octets.now in
    let old = a.state.now in
    let k = c.encode_value in
    let D = perhaps C a.node G F in
    let there = c.is_absent.ensures.present c.if-is_absent.false in
    told_stopped cx D x was old k.new.octets k.new.state c.from_residual-in_err-found.result c.from_residual-in_err-found.ensures
    (stopped_on cx A.misfit (D.misfit x) old old k.new.state
    (λ e w. present_misfit cx C a.node G F x was old k.new.octets k.new.state there e (inl w)) c.in_err-found.ensures)

pub encode_optional-encode_components-requires-2 : goal.sequence::encode_optional-encode_components-requires-2
encode_optional-encode_components-requires-2 t c =
    let a = c.args in
    let k = c.encode_value in
    let e = c.in_ok-found.ensures in (
      search rules,
      (
        omega (arith, k.auto.octets, c.requires.size),
        (
          c.requires.source,
          (
            c.requires.parts,
            (
              filled_on a.context.now (BeginFilled (value_in a.context.now a.depth a.node a.presence a.inner).encoding.encodes (Some c.in_ok-found.found))
                  a.octets.now a.state.now k.new.octets k.new.state e c.requires.whole,
              c.requires.few,
            ),
          ),
        ),
      ),
    )

pub encode_optional-returns-in_err-encode_components : goal.sequence::encode_optional-returns-in_err-encode_components
encode_optional-returns-in_err-encode_components t c =
    let a = c.args in
    let cx = a.context.now in
    let A = value_in cx a.depth a.node a.presence a.inner in
    let F = components_in cx a.depth a.node a.count a.from a.tail.now in
    let G = present A F in
    let C = MayBegin cx.tags.tags.now a.first in
    let x = told_of a.tail.now in
    let was = a.octets.now in
    let old = a.state.now in
    let n = c.encode_value in
    let k = c.encode_components-2 in
    let D = perhaps C a.node G F in
    let there = c.is_absent.ensures.present c.if-is_absent.false in
    told_stopped cx D x was old k.new.octets k.new.state c.from_residual-in_err-encode_components.result c.from_residual-in_err-encode_components.ensures
    (stopped_on cx (F.misfit x) (D.misfit x) old n.new.state k.new.state
    (λ e w. present_misfit cx C a.node G F x was old k.new.octets k.new.state there e
    (after_value cx A F x was old n.new.octets n.new.state c.in_ok-found.found c.in_ok-found.ensures e w)) c.in_err-encode_components.ensures)

pub encode_optional-returns-then-not-has_tag : goal.sequence::encode_optional-returns-then-not-has_tag
encode_optional-returns-then-not-has_tag t c =
    let a = c.args in
    let cx = a.context.now in
    let A = value_in cx a.depth a.node a.presence a.inner in
    let F = components_in cx a.depth a.node a.count a.from a.tail.now in
    let G = present A F in
    let C = MayBegin cx.tags.tags.now a.first in
    let x = told_of a.tail.now in
    let was = a.octets.now in
    let old = a.state.now in
    let n = c.encode_value in
    let k = c.encode_components-2 in
    let l = c.reject-then-not-has_tag in
    let found = c.in_ok-found.found in
    let there = c.is_absent.ensures.present c.if-is_absent.false in
    let g = present_done cx A F x was old n.new.octets n.new.state found c.in_ok-found.ensures k.new.octets k.new.state
    c.in_ok-encode_components.field-0 c.in_ok-encode_components.ensures in
    present_clash cx C a.node G F x was old k.new.octets k.new.state there (Some found) g
    (may_not cx.tags.tags.now a.first g.list found g.fills.1 (λ id i. c.has_tag.ensures.no id i c.if-not-has_tag.true))
    l.new.state l.ensures.next l.ensures.node l.ensures.reason

pub encode_optional-returns : goal.sequence::encode_optional-returns
encode_optional-returns t c =
    let a = c.args in
    let cx = a.context.now in
    let A = value_in cx a.depth a.node a.presence a.inner in
    let F = components_in cx a.depth a.node a.count a.from a.tail.now in
    let G = present A F in
    let C = MayBegin cx.tags.tags.now a.first in
    let x = told_of a.tail.now in
    let was = a.octets.now in
    let old = a.state.now in
    let n = c.encode_value in
    let k = c.encode_components-2 in
    let found = c.in_ok-found.found in
    let there = c.is_absent.ensures.present c.if-is_absent.false in
    let g = present_done cx A F x was old n.new.octets n.new.state found c.in_ok-found.ensures k.new.octets k.new.state
    c.in_ok-encode_components.field-0 c.in_ok-encode_components.ensures in
    perhaps_done cx C a.node G F x was old k.new.octets k.new.state there (Some found) g
    (may_begin cx.tags.tags.now a.first g.list found g.fills.1 (λ id i. c.has_tag.ensures.yes id i c.if-not-has_tag.false))

-- ---- the first part

pub encode_sequence-returns-then-not-is_sequence : goal.sequence::encode_sequence-returns-then-not-is_sequence
encode_sequence-returns-then-not-is_sequence t c known =
    let a = c.args in
    let cx = a.context.now in
    let F = components_in cx a.depth a.node a.root.count a.root.from End in
    let is : ⊤ → Piece = λ u. Sequence a.root.count false in
    let T = told is der.always NotPermitted a.node F in
    let l = c.reject-then-not-is_sequence in
    let p = piece_in cx.tables.ranges.now cx.source.now c.in-Some.part.now in
    let e = part_next cx a.state.now.next c.in-Some.part.now (sym c.in-Some.ensures) in
    stopped_here cx T.misfit a.octets.now a.octets.now a.state.now l.new.state l.result a.node OtherPart T.contents.fills l.ensures.result l.ensures.next
    l.ensures.node l.ensures.reason
    (subst (λ (k : Parts). T.misfit k (record { node = a.node; left = length k; kind = OtherPart })) (sym e)
    (told_other cx is a.node F tt a.octets.now a.state.now a.octets.now l.new.state p (tape cx (a.state.now.next + 1))
    (λ y. c.is_sequence.ensures.other cx.tables.ranges.now cx.source.now c.if-not-is_sequence.true)))

pub encode_sequence-overflow_add-state : goal.sequence::encode_sequence-overflow_add-state
encode_sequence-overflow_add-state t c =
    let w = slice_get_within c.args.context.now.parts.now c.args.state.now.next c.in-Some.part.now (sym c.in-Some.ensures) in
    omega (arith, w, c.requires.parts)

pub encode_sequence-returns-in-None : goal.sequence::encode_sequence-returns-in-None
encode_sequence-returns-in-None t c known =
    let a = c.args in
    let cx = a.context.now in
    let F = components_in cx a.depth a.node a.root.count a.root.from End in
    let is : ⊤ → Piece = λ u. Sequence a.root.count false in
    let T = told is der.always NotPermitted a.node F in
    let l = c.reject in
    stopped_here cx T.misfit a.octets.now a.octets.now a.state.now l.new.state l.result a.node NoPart T.contents.fills l.ensures.result l.ensures.next
    l.ensures.node l.ensures.reason
    (subst (λ (k : Parts). T.misfit k (record { node = a.node; left = length k; kind = NoPart }))
    (sym (part_none cx a.state.now.next (sym c.in-None.ensures))) refl)

pub encode_sequence-returns-else-not-is_sequence : goal.sequence::encode_sequence-returns-else-not-is_sequence
encode_sequence-returns-else-not-is_sequence t c known =
    let a = c.args in
    let cx = a.context.now in
    let F = components_in cx a.depth a.node a.root.count a.root.from End in
    let is : ⊤ → Piece = λ u. Sequence a.root.count false in
    let T = told is der.always NotPermitted a.node F in
    let k = c.encode_components in
    let old = a.state.now in
    let e : tape cx old.next ≡ Sequence a.root.count false ∷ tape cx (old.next + 1) =
    part_next cx old.next c.in-Some.part.now (sym c.in-Some.ensures)
    ∙ ap (λ (p : Part). piece_in cx.tables.ranges.now cx.source.now p ∷ tape cx (old.next + 1)) (c.is_sequence.ensures.is c.if-not-is_sequence.false) in
    subst (λ (b : Bool). ContentsOutcome cx T a.octets.now old k.new.octets k.new.state b) (sym c.is_some.ensures)
    (told_done cx is a.node F tt a.octets.now old k.new.octets k.new.state (record old { next = old.next + 1 }) k.result e refl k.ensures)
