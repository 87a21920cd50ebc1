-- Answers for the encoders of src/value.rt.
use Rattle.std.proofs.Common.{◌≡◌, ℕ, ◌-◌, Bool, true, false, List, [], refl, sym, ◌∙◌, ap, subst, inl, inr, arith, Some, None}
use Rattle.asn1_schema.specs.declared.tables.Presence.{Presence}
use Rattle.asn1_x690_encode.specs.Compared.{IsDefault, IsCompared}
use Rattle.asn1_x690_encode.specs.Encoding.{ValueOutcome, IsWide, tape, types, element_in, value_in}
use Rattle.asn1_x690_encode.specs.OtherSteps.{left_same, value_filled, again_left, again_same, again_wide, other_encoded, other_misfit, compared_yes, compared_no}
use Rattle.asn1_x690_encode.specs.PlaceSteps.{placed, found, ends_after}
use Rattle.asn1_x690_encode.specs.Steps.{as_value}
use Rattle.asn1_x690_encode.proofs.+encoding.Goals as goal

pub encode_value-returns-in-Mandatory : goal.value::encode_value-returns-in-Mandatory
encode_value-returns-in-Mandatory t c =
    let a = c.args in
    let cx = a.context.now in
    let k = c.encode_node in
    subst (λ (p : Presence). ValueOutcome cx (value_in cx a.depth a.node p a.inner) a.octets.now a.state.now k.new.octets k.new.state k.result)
    (sym c.in-Mandatory.is) (as_value cx a.inner (types cx a.depth a.inner) a.octets.now a.state.now k.new.octets k.new.state k.result k.ensures)

pub encode_value-returns-in-Optional : goal.value::encode_value-returns-in-Optional
encode_value-returns-in-Optional t c =
    let a = c.args in
    let cx = a.context.now in
    let k = c.encode_node-in-Optional in
    subst (λ (p : Presence). ValueOutcome cx (value_in cx a.depth a.node p a.inner) a.octets.now a.state.now k.new.octets k.new.state k.result)
    (sym c.in-Optional.is) (as_value cx a.inner (types cx a.depth a.inner) a.octets.now a.state.now k.new.octets k.new.state k.result k.ensures)

pub encode_value-returns-in-Default : goal.value::encode_value-returns-in-Default
encode_value-returns-in-Default t c =
    let a = c.args in
    let cx = a.context.now in
    let k = c.encode_other_than in
    subst (λ (p : Presence). ValueOutcome cx (value_in cx a.depth a.node p a.inner) a.octets.now a.state.now k.new.octets k.new.state k.result)
    (sym c.in-Default.is) k.ensures

not_both : (b : Bool) → b ≡ false → b ≡ true → ⊥
not_both b e f = cc

pub encode_other_than-returns-then-not-is_other : goal.value::encode_other_than-returns-then-not-is_other
encode_other_than-returns-then-not-is_other t c =
    let a = c.args in
    let cx = a.context.now in
    let was = a.octets.now in
    let old = a.state.now in
    let k = c.encode_node in
    let f = c.in_ok-found.found in
    let e = as_value cx a.inner (types cx a.depth a.inner) was old k.new.octets k.new.state (Some f) c.in_ok-found.ensures in
    let m = c.is_other in
    compared_no cx a.depth a.node a.value a.inner was k.new.octets old k.new.state f e m.new.state
    (subst (λ (b : Bool). IsCompared cx a.node a.value old.next e.list m.new.state b) c.if-not-is_other.true
    (m.ensures.compared e.parts (tape cx k.new.state.next) e.list e.fills.0 e.taken))

pub encode_other_than-returns-then-not-is_in : goal.value::encode_other_than-returns-then-not-is_in
encode_other_than-returns-then-not-is_in t c =
    let a = c.args in
    let cx = a.context.now in
    let was = a.octets.now in
    let old = a.state.now in
    let k = c.encode_node in
    let f = c.in_ok-found.found in
    let e = as_value cx a.inner (types cx a.depth a.inner) was old k.new.octets k.new.state (Some f) c.in_ok-found.ensures in
    let m = c.is_other in
    compared_yes cx a.depth a.node a.value a.inner was k.new.octets old k.new.state f e m.new.state (m.ensures.kept c.if-not-is_other.false)
    (subst (λ (b : Bool). IsCompared cx a.node a.value old.next e.list m.new.state b) c.if-not-is_other.false
    (m.ensures.compared e.parts (tape cx k.new.state.next) e.list e.fills.0 e.taken))

pub encode_other_than-returns-then-not-may_be_default : goal.value::encode_other_than-returns-then-not-may_be_default
encode_other_than-returns-then-not-may_be_default t c =
    let a = c.args in
    let cx = a.context.now in
    let was = a.octets.now in
    let old = a.state.now in
    let k = c.encode_node in
    let f = c.in_ok-found.found in
    let e = as_value cx a.inner (types cx a.depth a.inner) was old k.new.octets k.new.state (Some f) c.in_ok-found.ensures in
    other_encoded cx a.depth a.node a.value a.inner was k.new.octets old k.new.state f e
    (λ d. not_both c.may_be_default.result c.if-not-may_be_default.true (c.may_be_default.ensures e.list (e.grown.index old.at (inl refl)) d))

pub encode_other_than-returns-then-is_default : goal.value::encode_other_than-returns-then-is_default
encode_other_than-returns-then-is_default t c =
    let a = c.args in
    let cx = a.context.now in
    let was = a.octets.now in
    let old = a.state.now in
    let k = c.encode_node in
    let f = c.in_ok-found.found in
    let e = as_value cx a.inner (types cx a.depth a.inner) was old k.new.octets k.new.state (Some f) c.in_ok-found.ensures in
    let h = c.is_in.ensures.0 c.if-not-is_in.false in
    let end = ends_after was k.new.octets old.at k.new.state.at e.list e.grown h.2 in
    let is = found k.new.octets old.at (k.new.state.at - old.at) e.list
    (placed was k.new.octets old.at k.new.state.at e.list k.auto.octets e.grown h) (omega (arith, end)) in
    let l = c.reject in
    let d = subst (λ (l : List Bool). IsDefault cx a.value l) is (c.is_default.ensures.0 c.if-is_default.true) in
    other_misfit cx a.depth a.node a.value a.inner was k.new.octets old k.new.state f e l.new.state d l.ensures.reason l.ensures.node l.ensures.next

pub encode_other_than-returns : goal.value::encode_other_than-returns
encode_other_than-returns t c =
    let a = c.args in
    let cx = a.context.now in
    let was = a.octets.now in
    let old = a.state.now in
    let k = c.encode_node in
    let f = c.in_ok-found.found in
    let e = as_value cx a.inner (types cx a.depth a.inner) was old k.new.octets k.new.state (Some f) c.in_ok-found.ensures in
    let h = c.is_in.ensures.0 c.if-not-is_in.false in
    let end = ends_after was k.new.octets old.at k.new.state.at e.list e.grown h.2 in
    let is = found k.new.octets old.at (k.new.state.at - old.at) e.list
    (placed was k.new.octets old.at k.new.state.at e.list k.auto.octets e.grown h) (omega (arith, end)) in
    other_encoded cx a.depth a.node a.value a.inner was k.new.octets old k.new.state f e
    (λ d. not_both c.is_default.result c.if-is_default.false
    (c.is_default.ensures.1 (subst (λ (l : List Bool). IsDefault cx a.value l) (sym is) d)))

-- ---- in octets of its own

pub is_other-returns-in-None-clause-compared : goal.value::is_other-returns-in-None-clause-compared
is_other-returns-in-None-clause-compared t c parts rest list p is =
    let a = c.args in
    let cx = a.context.now in
    let k = c.encode_node in
    let s = c.stop in
    subst (λ (b : Bool). IsCompared cx a.node a.value a.first list s.new.state b) (sym s.ensures.result)
    (inr (left_same cx k.new.state s.new.state s.ensures.next s.ensures.node s.ensures.reason
    (again_left cx a.depth a.inner a.first parts rest list [] k.new.octets _ k.new.state refl p is
    (as_value cx a.inner (types cx a.depth a.inner) [] _ k.new.octets k.new.state None c.in-None.ensures))))

pub is_other-returns-then-not-is_in-clause-compared : goal.value::is_other-returns-then-not-is_in-clause-compared
is_other-returns-then-not-is_in-clause-compared t c parts rest list p is =
    let a = c.args in
    let cx = a.context.now in
    let k = c.encode_node in
    let s = c.leave_unread in
    let f = c.in-Some.field-0 in
    subst (λ (b : Bool). IsCompared cx a.node a.value a.first list s.new.state b) (sym s.ensures.result)
    (inr (inr (
      s.ensures.reason,
      inl (subst (λ (n : ℕ). IsWide cx n s.new.state.next) (sym s.ensures.node) (record {
        depth = a.depth;
        parts = parts;
        list = list;
        rest = rest;
        encodes = p;
        are = ap (λ (n : ℕ). tape cx n) s.ensures.next ∙ is;
        many = again_wide cx a.depth a.inner a.first parts rest list _ k.new.octets _ k.new.state refl p is
            (value_filled cx (element_in cx a.depth a.inner) _ k.new.octets _ k.new.state f
            (as_value cx a.inner (types cx a.depth a.inner) _ _ k.new.octets k.new.state (Some f) c.in-Some.ensures)) refl k.auto.octets
            (λ w. not_both c.is_in.result c.if-not-is_in.true (c.is_in.ensures.1 w));
      })),
    )))

pub is_other-returns-then-is_default-clause-compared : goal.value::is_other-returns-then-is_default-clause-compared
unfolding value_filled
is_other-returns-then-is_default-clause-compared t c parts rest list p is =
    let a = c.args in
    let cx = a.context.now in
    let k = c.encode_node in
    let s = c.reject in
    let f = c.in-Some.field-0 in
    let e = as_value cx a.inner (types cx a.depth a.inner) _ _ k.new.octets k.new.state (Some f) c.in-Some.ensures in
    let same = again_same cx a.depth a.inner a.first parts rest list _ k.new.octets _ k.new.state refl p is
    (value_filled cx (element_in cx a.depth a.inner) _ k.new.octets _ k.new.state f e) in
    let i = c.is_in.ensures.0 c.if-not-is_in.false in
    let end = ends_after _ k.new.octets 0 k.new.state.at e.list e.grown i.2 in
    let there = found k.new.octets 0 (k.new.state.at - 0) e.list
    (placed _ k.new.octets 0 k.new.state.at e.list k.auto.octets e.grown i) (omega (arith, end)) in
    let d = subst (λ (l : List Bool). IsDefault cx a.value l) (there ∙ same) (c.is_default.ensures.0 c.if-is_default.true) in
    subst (λ (b : Bool). IsCompared cx a.node a.value a.first list s.new.state b) (sym s.ensures.result)
    (inl (s.ensures.reason, s.ensures.node, s.ensures.next, d))

pub is_other-returns-else-is_default-clause-compared : goal.value::is_other-returns-else-is_default-clause-compared
unfolding value_filled
is_other-returns-else-is_default-clause-compared t c parts rest list p is =
    let a = c.args in
    let cx = a.context.now in
    let k = c.encode_node in
    let f = c.in-Some.field-0 in
    let e = as_value cx a.inner (types cx a.depth a.inner) _ _ k.new.octets k.new.state (Some f) c.in-Some.ensures in
    let same = again_same cx a.depth a.inner a.first parts rest list _ k.new.octets _ k.new.state refl p is
    (value_filled cx (element_in cx a.depth a.inner) _ k.new.octets _ k.new.state f e) in
    let i = c.is_in.ensures.0 c.if-not-is_in.false in
    let end = ends_after _ k.new.octets 0 k.new.state.at e.list e.grown i.2 in
    let there = found k.new.octets 0 (k.new.state.at - 0) e.list
    (placed _ k.new.octets 0 k.new.state.at e.list k.auto.octets e.grown i) (omega (arith, end)) in
    λ d. not_both c.is_default.result c.if-is_default.false
    (c.is_default.ensures.1 (subst (λ (l : List Bool). IsDefault cx a.value l) (sym (there ∙ same)) d))
