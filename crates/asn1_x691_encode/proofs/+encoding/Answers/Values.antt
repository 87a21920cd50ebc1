-- Answers for the encoders of src/value.rt.
use Rattle.std.proofs.Common.{◌≡◌, ℕ, ◌-◌, ◌%◌, Bool, true, false, List, [], refl, sym, ◌∙◌, ap, subst, inl, inr, arith}
use Rattle.asn1_x691_encode.specs.Compared.{IsDefaultAt, IsCompared}
use Rattle.asn1_x691_encode.specs.Encoding.{Outcome, tape, types, value_in}
use Rattle.asn1_x691_encode.specs.OtherSteps.{alike_bit, same_default, other_default, left_same, other_fails, other_encoded, other_misfit, compared, again_left, again_same, again_wide}
use Rattle.asn1_x691_encode.specs.PlaceSteps.{placed, found, ends_after}
use Rattle.asn1_schema.specs.declared.tables.Presence.TheVariants as presence
use Rattle.asn1_x691_encode.proofs.+encoding.Goals as goal

not_both : (b : Bool) → b ≡ false → b ≡ true → ⊥
not_both b e f = cc

pub encode_other_than-returns-then-not-encode_node : goal.value::encode_other_than-returns-then-not-encode_node
encode_other_than-returns-then-not-encode_node t c =
    let a = c.args in
    let k = c.encode_node in
    other_fails a.context.now a.depth a.node a.value a.inner a.octets.now k.new.octets a.state.now k.new.state c.if-not-encode_node.ensures

pub encode_other_than-returns-then-not-is_in : goal.value::encode_other_than-returns-then-not-is_in
encode_other_than-returns-then-not-is_in t c =
    let a = c.args in
    let cx = a.context.now in
    let k = c.encode_node in
    let m = c.is_other in
    let e = c.if-not-encode_node.ensures in
    let here : (types cx a.depth a.inner a.state.now.at).encoding.encodes e.parts e.written.list = e.written.encodes a.state.now.at (λ q. refl) in
    compared cx a.depth a.node a.value a.inner a.octets.now k.new.octets a.state.now k.new.state m.new.state e m.result m.ensures.kept
    (m.ensures.compared a.state.now.at e.parts (tape cx k.new.state.next) e.written.list (λ q. refl) here e.taken)

pub encode_other_than-returns-then-is_default : goal.value::encode_other_than-returns-then-is_default
encode_other_than-returns-then-is_default t c =
    let a = c.args in
    let cx = a.context.now in
    let old = a.state.now in
    let k = c.encode_node in
    let m = c.reject in
    let e = c.if-not-encode_node.ensures in
    let h = c.is_in.ensures.0 c.if-not-is_in.false in
    let end = ends_after a.octets.now k.new.octets old.at k.new.state.at e.written.list e.written.grown h.2 in
    let is = found k.new.octets old.at (k.new.state.at - old.at) e.written.list
    (placed a.octets.now k.new.octets old.at k.new.state.at e.written.list k.auto.octets e.written.grown h) (omega (arith, end)) in
    let d = subst (λ (l : List Bool). IsDefaultAt cx a.value old.at l) is (c.is_default.ensures.0 c.if-is_default.true) in
    subst (λ (b : Bool). Outcome cx (value_in cx a.depth a.node (presence.Default a.value) a.inner) a.octets.now old k.new.octets m.new.state b)
    (sym m.ensures.result)
    (inl (other_misfit cx a.depth a.node a.value a.inner a.octets.now k.new.octets old k.new.state m.new.state e d m.ensures.reason m.ensures.node
    m.ensures.next))

pub encode_other_than-returns : goal.value::encode_other_than-returns
encode_other_than-returns t c =
    let a = c.args in
    let cx = a.context.now in
    let old = a.state.now in
    let k = c.encode_node in
    let e = c.if-not-encode_node.ensures in
    let h = c.is_in.ensures.0 c.if-not-is_in.false in
    let end = ends_after a.octets.now k.new.octets old.at k.new.state.at e.written.list e.written.grown h.2 in
    let is = found k.new.octets old.at (k.new.state.at - old.at) e.written.list
    (placed a.octets.now k.new.octets old.at k.new.state.at e.written.list k.auto.octets e.written.grown h) (omega (arith, end)) in
    other_encoded cx a.depth a.node a.value a.inner a.octets.now k.new.octets old k.new.state e
    (λ d. not_both c.is_default.result c.if-is_default.false
    (c.is_default.ensures.1 (subst (λ (l : List Bool). IsDefaultAt cx a.value old.at l) (sym is) d)))

-- ---- in octets of its own

pub is_other-returns-then-not-encode_node-clause-compared : goal.value::is_other-returns-then-not-encode_node-clause-compared
is_other-returns-then-not-encode_node-clause-compared t c at parts rest list h p is =
    let a = c.args in
    let cx = a.context.now in
    let k = c.encode_node in
    let s = c.stop in
    subst (λ (b : Bool). IsCompared cx a.node a.value a.first at list s.new.state b) (sym s.ensures.result)
    (inr (left_same cx k.new.state s.new.state s.ensures.next s.ensures.node s.ensures.reason
    (again_left cx a.depth a.inner at a.first (a.from % 8) parts rest list [] k.new.octets _ k.new.state refl refl
    (alike_bit cx.is_aligned at a.from h) p is c.if-not-encode_node.ensures)))

pub is_other-returns-then-not-is_in-clause-compared : goal.value::is_other-returns-then-not-is_in-clause-compared
is_other-returns-then-not-is_in-clause-compared t c at parts rest list h p is =
    let a = c.args in
    let cx = a.context.now in
    let k = c.encode_node in
    let s = c.leave_unread in
    subst (λ (b : Bool). IsCompared cx a.node a.value a.first at list s.new.state b) (sym s.ensures.result)
    (inr (inr (
      s.ensures.reason,
      inl (record {
        depth = a.depth;
        inner = a.inner;
        at = at;
        parts = parts;
        list = list;
        rest = rest;
        encodes = p;
        are = ap (λ (n : ℕ). tape cx n) s.ensures.next ∙ is;
        many = again_wide cx a.depth a.inner at a.first (a.from % 8) parts rest list _ k.new.octets _ k.new.state refl refl
            (alike_bit cx.is_aligned at a.from h) p is c.if-not-encode_node.ensures (omega arith) k.auto.octets
            (λ w. not_both c.is_in.result c.if-not-is_in.true (c.is_in.ensures.1 w));
      }),
    )))

pub is_other-returns-then-is_default-clause-compared : goal.value::is_other-returns-then-is_default-clause-compared
is_other-returns-then-is_default-clause-compared t c at parts rest list h p is =
    let a = c.args in
    let cx = a.context.now in
    let k = c.encode_node in
    let s = c.reject in
    let e = c.if-not-encode_node.ensures in
    let same = again_same cx a.depth a.inner at a.first (a.from % 8) parts rest list _ k.new.octets _ k.new.state refl refl
    (alike_bit cx.is_aligned at a.from h) p is e in
    let i = c.is_in.ensures.0 c.if-not-is_in.false in
    let end = ends_after _ k.new.octets (a.from % 8) k.new.state.at e.written.list e.written.grown i.2 in
    let there = found k.new.octets (a.from % 8) (k.new.state.at - a.from % 8) e.written.list
    (placed _ k.new.octets (a.from % 8) k.new.state.at e.written.list k.auto.octets e.written.grown i) (omega (arith, end)) in
    let d = subst (λ (l : List Bool). IsDefaultAt cx a.value a.from l) (there ∙ same) (c.is_default.ensures.0 c.if-is_default.true) in
    subst (λ (b : Bool). IsCompared cx a.node a.value a.first at list s.new.state b) (sym s.ensures.result)
    (inl (s.ensures.reason, s.ensures.node, s.ensures.next, same_default cx a.value at a.from list h d))

pub is_other-returns-clause-compared : goal.value::is_other-returns-clause-compared
is_other-returns-clause-compared t c at parts rest list h p is =
    let a = c.args in
    let cx = a.context.now in
    let k = c.encode_node in
    let e = c.if-not-encode_node.ensures in
    let same = again_same cx a.depth a.inner at a.first (a.from % 8) parts rest list _ k.new.octets _ k.new.state refl refl
    (alike_bit cx.is_aligned at a.from h) p is e in
    let i = c.is_in.ensures.0 c.if-not-is_in.false in
    let end = ends_after _ k.new.octets (a.from % 8) k.new.state.at e.written.list e.written.grown i.2 in
    let there = found k.new.octets (a.from % 8) (k.new.state.at - a.from % 8) e.written.list
    (placed _ k.new.octets (a.from % 8) k.new.state.at e.written.list k.auto.octets e.written.grown i) (omega (arith, end)) in
    λ d. not_both c.is_default.result c.if-is_default.false
    (c.is_default.ensures.1
    (subst (λ (l : List Bool). IsDefaultAt cx a.value a.from l) (sym (there ∙ same)) (other_default cx a.value at a.from list h d)))
