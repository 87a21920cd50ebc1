-- Answers for the encoders of src/choice.rt.
use Rattle.std.proofs.Common.{◌≡◌, ◌+◌, ◌-◌, ◌<◌, ◌∷◌, false, length, refl, sym, ap, ◌∙◌, subst, inl, Some, None, Option, arith}
use Rattle.std.proofs.lemmas.Option.{slice_get_within}
use Rattle.asn1_schema.specs.declared.misfit.MisfitKind.TheVariants.{NoPart}
use Rattle.asn1_schema.specs.declared.part.Part.{Part}
use Rattle.asn1_schema.specs.Pieces.{Parts, Chosen}
use Rattle.asn1_x690.specs.Der as der
use Rattle.asn1_x690.specs.declared.fault.FaultKind.{FaultKind}
use Rattle.asn1_x690.specs.declared.tables.Class.TheVariants.{Universal}
use Rattle.asn1_x690.specs.declared.tables.Identifier.{Identifier}
use Rattle.asn1_x690.specs.TypeContents.{ByHeader, either}
use Rattle.asn1_x690_fields.specs.declared.identifier.FoundIdentifier.{FoundIdentifier}
use Rattle.asn1_x691_writers.specs.Put.{piece_in}
use Rattle.asn1_x690_encode.specs.ChoiceSteps.{at_alternative, chosen_done, chosen_misfit, chosen_clash, other_done, other_misfit, other_clash}
use Rattle.asn1_x690_encode.specs.Encoding.{ElementOutcome, IsStopped, alternatives_in, others_in, tape, types}
use Rattle.asn1_x690_encode.specs.NodeSteps.{choice_is}
use Rattle.asn1_x690_encode.specs.declared.choice.Others.{Others}
use Rattle.asn1_x690_encode.specs.Steps.{misfit_here, part_next, part_none, stopped_on}
use Rattle.asn1_x690_encode.proofs.+encoding.Goals as goal

-- the lemmas on misfits take any identifier
nobody : FoundIdentifier
nobody = record { class = Universal; number = None; is_constructed = false }

pub encode_alternatives-returns-in-None : goal.choice::encode_alternatives-returns-in-None
encode_alternatives-returns-in-None t c =
    let a = c.args in
    let cx = a.context.now in
    let old = a.state.now in
    let m = c.in-Some.member in
    let first = c.in-Some-first_tags_at.first in
    let l = c.reject-in-None in
    let none = part_none cx old.next (sym c.in-None.ensures) in
    let W : ByHeader FaultKind Identifier → Type 0 = λ D. D.misfit (tape cx old.next) (record { node = a.node; left = length (tape cx old.next); kind = NoPart }) in
    inl (misfit_here cx _ old l.new.state a.node NoPart l.ensures.next l.ensures.node l.ensures.reason
    (at_alternative cx a.depth a.node a.index a.count a.from (others_in cx a.depth a.node a.others) m first W
    (omega (arith, c.if-count-eq0.false)) (sym c.in-Some.ensures) (sym c.in-Some-first_tags_at.ensures)
    (subst (λ (k : Parts). (either (λ id. der.HasTag cx.tags.tags.now first id) a.node (Chosen a.index) (types cx a.depth m.node)
    (alternatives_in cx a.depth a.node (a.index + 1) (a.count - 1) (a.from + 1) a.others)).misfit k (record { node = a.node; left = length k; kind = NoPart }))
    (sym none) refl)))

pub encode_alternatives-overflow_add-state : goal.choice::encode_alternatives-overflow_add-state
encode_alternatives-overflow_add-state t c =
    let w = slice_get_within c.args.context.now.parts.now c.args.state.now.next c.in-Some-part_at.part.now (sym c.in-Some-part_at.ensures) in
    omega (arith, w, c.requires.parts)

pub encode_alternatives-returns-in_err-found-in-Some-part_at : goal.choice::encode_alternatives-returns-in_err-found-in-Some-part_at
encode_alternatives-returns-in_err-found-in-Some-part_at t c =
    let a = c.args in
    let cx = a.context.now in
    let old = a.state.now in
    let was = a.octets.now in
    let m = c.in-Some.member in
    let first = c.in-Some-first_tags_at.first in
    let p = c.in-Some-part_at.part.now in
    let piece = piece_in cx.tables.ranges.now cx.source.now p in
    let P : Identifier → Type 0 = λ id. der.HasTag cx.tags.tags.now first id in
    let q = Chosen a.index in
    let A = types cx a.depth m.node in
    let B = alternatives_in cx a.depth a.node (a.index + 1) (a.count - 1) (a.from + 1) a.others in
    let D = either P a.node q A B in
    let e = part_next cx old.next p (sym c.in-Some-part_at.ensures) in
    let mid = record old { next = old.next + 1 } in
    let some : 0 < a.count = omega (arith, c.if-count-eq0.false) in
    let after = others_in cx a.depth a.node a.others in
    let at = λ (Q : ByHeader FaultKind Identifier → Type 0).
    at_alternative cx a.depth a.node a.index a.count a.from after m first Q some (sym c.in-Some.ensures) (sym c.in-Some-first_tags_at.ensures) in
    let is : tape cx old.next ≡ q ∷ tape cx mid.next =
    e ∙ ap (λ (x : Part). piece_in cx.tables.ranges.now cx.source.now x ∷ tape cx mid.next) (c.is_chosen.ensures.is c.if-is_chosen.true) in
    let k = c.encode_node in
    let r = c.from_residual in
    subst (λ (y : Option FoundIdentifier). ElementOutcome cx (alternatives_in cx a.depth a.node a.index a.count a.from a.others) was old k.new.octets k.new.state y)
    (sym r.ensures)
    (at (λ (X : ByHeader FaultKind Identifier). IsStopped cx X.misfit old k.new.state)
    (stopped_on cx A.misfit D.misfit old mid k.new.state
    (λ x w. chosen_misfit cx P a.node q A B was old k.new.octets k.new.state nobody mid is refl x w) c.in_err-found-in-Some-part_at.ensures))

pub encode_alternatives-returns-then-not-has_tag : goal.choice::encode_alternatives-returns-then-not-has_tag
encode_alternatives-returns-then-not-has_tag t c =
    let a = c.args in
    let cx = a.context.now in
    let old = a.state.now in
    let was = a.octets.now in
    let m = c.in-Some.member in
    let first = c.in-Some-first_tags_at.first in
    let p = c.in-Some-part_at.part.now in
    let piece = piece_in cx.tables.ranges.now cx.source.now p in
    let P : Identifier → Type 0 = λ id. der.HasTag cx.tags.tags.now first id in
    let q = Chosen a.index in
    let A = types cx a.depth m.node in
    let B = alternatives_in cx a.depth a.node (a.index + 1) (a.count - 1) (a.from + 1) a.others in
    let D = either P a.node q A B in
    let e = part_next cx old.next p (sym c.in-Some-part_at.ensures) in
    let mid = record old { next = old.next + 1 } in
    let some : 0 < a.count = omega (arith, c.if-count-eq0.false) in
    let after = others_in cx a.depth a.node a.others in
    let at = λ (Q : ByHeader FaultKind Identifier → Type 0).
    at_alternative cx a.depth a.node a.index a.count a.from after m first Q some (sym c.in-Some.ensures) (sym c.in-Some-first_tags_at.ensures) in
    let is : tape cx old.next ≡ q ∷ tape cx mid.next =
    e ∙ ap (λ (x : Part). piece_in cx.tables.ranges.now cx.source.now x ∷ tape cx mid.next) (c.is_chosen.ensures.is c.if-is_chosen.true) in
    let k = c.encode_node in
    let l = c.reject-then-not-has_tag in
    at (λ (X : ByHeader FaultKind Identifier). IsStopped cx X.misfit old l.new.state)
    (chosen_clash cx P a.node q A B was old k.new.octets k.new.state c.in_ok-found-in-Some-part_at.found mid is refl c.in_ok-found-in-Some-part_at.ensures
    (λ id i. c.has_tag.ensures.no id i c.if-not-has_tag.true) l.new.state l.ensures.next l.ensures.node l.ensures.reason)

pub encode_alternatives-returns-then-is_chosen : goal.choice::encode_alternatives-returns-then-is_chosen
encode_alternatives-returns-then-is_chosen t c =
    let a = c.args in
    let cx = a.context.now in
    let old = a.state.now in
    let was = a.octets.now in
    let m = c.in-Some.member in
    let first = c.in-Some-first_tags_at.first in
    let p = c.in-Some-part_at.part.now in
    let piece = piece_in cx.tables.ranges.now cx.source.now p in
    let P : Identifier → Type 0 = λ id. der.HasTag cx.tags.tags.now first id in
    let q = Chosen a.index in
    let A = types cx a.depth m.node in
    let B = alternatives_in cx a.depth a.node (a.index + 1) (a.count - 1) (a.from + 1) a.others in
    let D = either P a.node q A B in
    let e = part_next cx old.next p (sym c.in-Some-part_at.ensures) in
    let mid = record old { next = old.next + 1 } in
    let some : 0 < a.count = omega (arith, c.if-count-eq0.false) in
    let after = others_in cx a.depth a.node a.others in
    let at = λ (Q : ByHeader FaultKind Identifier → Type 0).
    at_alternative cx a.depth a.node a.index a.count a.from after m first Q some (sym c.in-Some.ensures) (sym c.in-Some-first_tags_at.ensures) in
    let is : tape cx old.next ≡ q ∷ tape cx mid.next =
    e ∙ ap (λ (x : Part). piece_in cx.tables.ranges.now cx.source.now x ∷ tape cx mid.next) (c.is_chosen.ensures.is c.if-is_chosen.true) in
    let k = c.encode_node in
    let found = c.in_ok-found-in-Some-part_at.found in
    at (λ (X : ByHeader FaultKind Identifier). ElementOutcome cx X was old k.new.octets k.new.state (Some found))
    (chosen_done cx P a.node q A B was old k.new.octets k.new.state found mid is refl c.in_ok-found-in-Some-part_at.ensures
    (λ id i. c.has_tag.ensures.yes id i c.if-not-has_tag.false))

pub encode_alternatives-returns-in_err-other-in-Some-part_at : goal.choice::encode_alternatives-returns-in_err-other-in-Some-part_at
encode_alternatives-returns-in_err-other-in-Some-part_at t c =
    let a = c.args in
    let cx = a.context.now in
    let old = a.state.now in
    let was = a.octets.now in
    let m = c.in-Some.member in
    let first = c.in-Some-first_tags_at.first in
    let p = c.in-Some-part_at.part.now in
    let piece = piece_in cx.tables.ranges.now cx.source.now p in
    let P : Identifier → Type 0 = λ id. der.HasTag cx.tags.tags.now first id in
    let q = Chosen a.index in
    let A = types cx a.depth m.node in
    let B = alternatives_in cx a.depth a.node (a.index + 1) (a.count - 1) (a.from + 1) a.others in
    let D = either P a.node q A B in
    let e = part_next cx old.next p (sym c.in-Some-part_at.ensures) in
    let mid = record old { next = old.next + 1 } in
    let some : 0 < a.count = omega (arith, c.if-count-eq0.false) in
    let after = others_in cx a.depth a.node a.others in
    let at = λ (Q : ByHeader FaultKind Identifier → Type 0).
    at_alternative cx a.depth a.node a.index a.count a.from after m first Q some (sym c.in-Some.ensures) (sym c.in-Some-first_tags_at.ensures) in
    let other = c.is_chosen.ensures.other cx.tables.ranges.now cx.source.now c.if-is_chosen.false in
    let k = c.encode_alternatives in
    let r = c.from_residual-in_err-other-in-Some-part_at in
    subst (λ (y : Option FoundIdentifier). ElementOutcome cx (alternatives_in cx a.depth a.node a.index a.count a.from a.others) was old k.new.octets k.new.state y)
    (sym r.ensures)
    (at (λ (X : ByHeader FaultKind Identifier). IsStopped cx X.misfit old k.new.state)
    (stopped_on cx B.misfit D.misfit old old k.new.state
    (λ x w. other_misfit cx P a.node q A B was old k.new.octets k.new.state nobody piece (tape cx mid.next) e other x w) c.in_err-other-in-Some-part_at.ensures))

pub encode_alternatives-returns-then-has_tag : goal.choice::encode_alternatives-returns-then-has_tag
encode_alternatives-returns-then-has_tag t c =
    let a = c.args in
    let cx = a.context.now in
    let old = a.state.now in
    let was = a.octets.now in
    let m = c.in-Some.member in
    let first = c.in-Some-first_tags_at.first in
    let p = c.in-Some-part_at.part.now in
    let piece = piece_in cx.tables.ranges.now cx.source.now p in
    let P : Identifier → Type 0 = λ id. der.HasTag cx.tags.tags.now first id in
    let q = Chosen a.index in
    let A = types cx a.depth m.node in
    let B = alternatives_in cx a.depth a.node (a.index + 1) (a.count - 1) (a.from + 1) a.others in
    let D = either P a.node q A B in
    let e = part_next cx old.next p (sym c.in-Some-part_at.ensures) in
    let mid = record old { next = old.next + 1 } in
    let some : 0 < a.count = omega (arith, c.if-count-eq0.false) in
    let after = others_in cx a.depth a.node a.others in
    let at = λ (Q : ByHeader FaultKind Identifier → Type 0).
    at_alternative cx a.depth a.node a.index a.count a.from after m first Q some (sym c.in-Some.ensures) (sym c.in-Some-first_tags_at.ensures) in
    let other = c.is_chosen.ensures.other cx.tables.ranges.now cx.source.now c.if-is_chosen.false in
    let k = c.encode_alternatives in
    let l = c.reject-then-has_tag in
    at (λ (X : ByHeader FaultKind Identifier). IsStopped cx X.misfit old l.new.state)
    (other_clash cx P a.node q A B was old k.new.octets k.new.state c.in_ok-other-in-Some-part_at.other piece (tape cx mid.next) e other c.in_ok-other-in-Some-part_at.ensures
    (λ id i. c.has_tag-in-Some-part_at.ensures.yes id i c.if-has_tag.true) l.new.state l.ensures.next l.ensures.node l.ensures.reason)

pub encode_alternatives-returns-else-has_tag : goal.choice::encode_alternatives-returns-else-has_tag
encode_alternatives-returns-else-has_tag t c =
    let a = c.args in
    let cx = a.context.now in
    let old = a.state.now in
    let was = a.octets.now in
    let m = c.in-Some.member in
    let first = c.in-Some-first_tags_at.first in
    let p = c.in-Some-part_at.part.now in
    let piece = piece_in cx.tables.ranges.now cx.source.now p in
    let P : Identifier → Type 0 = λ id. der.HasTag cx.tags.tags.now first id in
    let q = Chosen a.index in
    let A = types cx a.depth m.node in
    let B = alternatives_in cx a.depth a.node (a.index + 1) (a.count - 1) (a.from + 1) a.others in
    let D = either P a.node q A B in
    let e = part_next cx old.next p (sym c.in-Some-part_at.ensures) in
    let mid = record old { next = old.next + 1 } in
    let some : 0 < a.count = omega (arith, c.if-count-eq0.false) in
    let after = others_in cx a.depth a.node a.others in
    let at = λ (Q : ByHeader FaultKind Identifier → Type 0).
    at_alternative cx a.depth a.node a.index a.count a.from after m first Q some (sym c.in-Some.ensures) (sym c.in-Some-first_tags_at.ensures) in
    let other = c.is_chosen.ensures.other cx.tables.ranges.now cx.source.now c.if-is_chosen.false in
    let k = c.encode_alternatives in
    let found = c.in_ok-other-in-Some-part_at.other in
    at (λ (X : ByHeader FaultKind Identifier). ElementOutcome cx X was old k.new.octets k.new.state (Some found))
    (other_done cx P a.node q A B was old k.new.octets k.new.state found piece (tape cx mid.next) e other c.in_ok-other-in-Some-part_at.ensures
    (λ id i. c.has_tag-in-Some-part_at.ensures.no id i c.if-has_tag.false))

pub encode_choice-returns : goal.choice::encode_choice-returns
encode_choice-returns t c =
    let a = c.args in
    let cx = a.context.now in
    let k = c.encode_alternatives in
    choice_is cx a.depth a.node a.is_extensible a.root a.additions
    (λ (B : ByHeader FaultKind Identifier). ElementOutcome cx B a.octets.now a.state.now k.new.octets k.new.state k.result)
    (subst
    (λ (o : Others). ElementOutcome cx (alternatives_in cx a.depth a.node 0 a.root.count a.root.from o) a.octets.now a.state.now
    k.new.octets k.new.state k.result) c.others_by-others.ensures k.ensures)

pub encode_others-returns-in-Unknown : goal.choice::encode_others-returns-in-Unknown
encode_others-returns-in-Unknown t c =
    let a = c.args in
    let cx = a.context.now in
    let k = c.encode_any in
    subst
    (λ (o : Others). ElementOutcome cx (others_in cx a.depth a.node o) a.octets.now a.state.now k.new.octets k.new.state k.result)
    (sym c.in-Unknown.is) k.ensures
