-- Answers for the encoders of src/sequence.rt.
use Rattle.std.proofs.Common.{◌≡◌, ℕ, ◌+◌, ◌-◌, ◌<◌, ◌∷◌, Bool, true, false, refl, sym, ◌∙◌, ap, subst, inl, inr, arith, Some, None, []}
use Rattle.std.proofs.lemmas.Option.{slice_get_within}
use Rattle.std.specs.Prelude.{slice_get}
use Rattle.asn1_schema.specs.declared.misfit.MisfitKind.TheVariants.{OtherPart}
use Rattle.asn1_schema.specs.declared.part.Part.{Part}
use Rattle.asn1_schema.specs.declared.tables.Presence.{Presence}
use Rattle.asn1_schema.specs.Encodings.{constant}
use Rattle.asn1_schema.specs.Pieces.{Sequence}
use Rattle.asn1_bits.specs.Bits.{digits}
use Rattle.asn1_x691.specs.Types.{optional_count, presence_bits}
use Rattle.asn1_x691_writers.specs.GrownSteps.{grown_none}
use Rattle.asn1_x691_writers.specs.Put.{piece_in}
use Rattle.asn1_x691_writers.specs.PutSteps.{rejected}
use Rattle.asn1_x691_writers.specs.Written.{IsIndex, IsGrown}
use Rattle.asn1_x691_encode.specs.Encoding.{Outcome, tape, types, value_in, sequence_in, root_in, components_in}
use Rattle.asn1_x691_encode.specs.Components.{ComponentOutcome, AreUnderway}
use Rattle.asn1_x691_encode.specs.LeafSteps.{after_none, after_put, part_next}
use Rattle.asn1_x691_encode.specs.ListSteps.{part_step}
use Rattle.asn1_x691_encode.specs.ComponentSteps.{included, components_first, misfit_on}
use Rattle.asn1_x691_encode.specs.SequenceSteps.{optional_component, component_first, component_on, component_fails, misfit_first, misfit_none, root_misfit, root_encoded}
use Rattle.asn1_x691_encode.proofs.+encoding.Goals as goal

pub encode_component-returns-in-Mandatory : goal.sequence::encode_component-returns-in-Mandatory
encode_component-returns-in-Mandatory t c =
    let a = c.args in
    let cx = a.context.now in
    let k = c.encode_node in
    subst
    (λ (p : Presence). ComponentOutcome cx (value_in cx a.depth a.node p a.member.node) p a.head a.octets.now a.state.now k.new.octets
    k.new.state k.result) (sym c.in-Mandatory.is) k.ensures

pub encode_component-returns-in_default : goal.sequence::encode_component-returns-in_default
encode_component-returns-in_default t c =
    let a = c.args in
    let cx = a.context.now in
    let k = c.encode_optional in
    optional_component cx (value_in cx a.depth a.node a.member.presence a.member.node) a.member.presence a.head a.octets.now a.state.now
    k.new.octets k.new.state k.result c.in_default.not-Mandatory k.ensures

pub encode_optional-returns : goal.sequence::encode_optional-returns
encode_optional-returns t c =
    let a = c.args in
    let cx = a.context.now in
    let k = c.encode_value in
    included cx (value_in cx a.depth a.node a.presence a.inner) a.head a.octets.now c.set_bit.new.octets a.state.now k.new.octets k.new.state
    k.result (c.is_absent.ensures.present c.if-is_absent.false) c.set_bit.ensures k.ensures

pub encode_root-loop-index-init : goal.sequence::encode_root-loop-index-init
encode_root-loop-index-init t c =
    let a = c.args in
    let cx = a.context.now in
    let members = cx.tables.members.now in
    let old = a.state.now in
    let bits = c.put_presence-state in
    let mid = record old { at = bits.result } in
    let count : a.root.count ≡ a.root.count - 0 = omega arith in
    let from : a.root.from ≡ a.root.from + 0 = omega arith in
    let width = optional_count members a.root.count a.root.from in (
      omega arith,
      let W = components_in cx a.depth a.node a.root.count a.root.from in
          let g = subst (λ (n : ℕ). IsGrown a.octets.now old.at bits.new.octets bits.result (digits 0 n)) c.count_optional.ensures bits.ensures in
          subst
          (λ (n : ℕ). AreUnderway cx W (components_in cx a.depth a.node n (a.root.from + 0)) width (optional_count members n (a.root.from + 0))
          a.octets.now old.at mid bits.new.octets mid old.at) count
          (subst
          (λ (n : ℕ). AreUnderway cx W (components_in cx a.depth a.node a.root.count n) width (optional_count members a.root.count n)
          a.octets.now old.at mid bits.new.octets mid old.at) from
          (components_first cx W width a.octets.now old.at mid bits.new.octets g)),
    )

pub encode_root-returns-in_default : goal.sequence::encode_root-returns-in_default
encode_root-returns-in_default t c =
    let a = c.args in
    let cx = a.context.now in
    let members = cx.tables.members.now in
    let old = a.state.now in
    let bits = c.put_presence-state in
    let mid = record old { at = bits.result } in
    let l = c.loop-index in
    let left = a.root.count - l.index in
    let at = a.root.from + l.index in
    let width = optional_count members a.root.count a.root.from in
    let W = components_in cx a.depth a.node a.root.count a.root.from in
    let new = c.reject.new.state in
    let g = subst (λ (n : ℕ). IsGrown a.octets.now old.at bits.new.octets bits.result (digits 0 n)) c.count_optional.ensures bits.ensures in
    let none : slice_get members at ≡ None = sym c.member_from.ensures ∙ c.in_default.is in
    let m = misfit_none cx a.depth a.node at none l.state new c.reject.ensures.next c.reject.ensures.node c.reject.ensures.reason left
    (omega (arith, c.loop-index-test.true)) in
    let w = misfit_on cx W width a.octets.now old.at mid (components_in cx a.depth a.node left at) (optional_count members left at)
    l.octets l.state new l.head l.invariant.1 m in
    subst (λ (b : Bool). Outcome cx (root_in cx a.depth a.node a.root) a.octets.now old l.octets new b) (sym c.reject.ensures.result)
    (inl (root_misfit cx a.depth a.node a.root a.octets.now bits.new.octets old mid refl g new w))

pub encode_root-returns-then-not-encode_component : goal.sequence::encode_root-returns-then-not-encode_component
encode_root-returns-then-not-encode_component t c =
    let a = c.args in
    let cx = a.context.now in
    let members = cx.tables.members.now in
    let old = a.state.now in
    let bits = c.put_presence-state in
    let mid = record old { at = bits.result } in
    let l = c.loop-index in
    let m = c.in-Some.member in
    let left = a.root.count - l.index in
    let at = a.root.from + l.index in
    let width = optional_count members a.root.count a.root.from in
    let W = components_in cx a.depth a.node a.root.count a.root.from in
    let A = types cx a.depth m.node in
    let k = c.encode_component in
    let new = k.new.state in
    let g = subst (λ (n : ℕ). IsGrown a.octets.now old.at bits.new.octets bits.result (digits 0 n)) c.count_optional.ensures bits.ensures in
    let is : slice_get members at ≡ Some m = sym c.member_from.ensures ∙ c.in-Some.is in
    let some : 0 < left = omega (arith, c.loop-index-test.true) in
    let V = value_in cx a.depth a.node m.presence m.node in
    let o = subst (λ (b : Bool). ComponentOutcome cx V m.presence l.head l.octets l.state k.new.octets new b) c.if-not-encode_component.true
    k.ensures in
    elim (component_fails cx a.depth a.node A (components_in cx a.depth a.node (left - 1) (at + 1)) l.octets k.new.octets l.state
    new l.head m.presence o) [
      | inl w ↦
          let v = misfit_first cx a.depth a.node m at is l.state new left some w in
          inl (root_misfit cx a.depth a.node a.root a.octets.now bits.new.octets old mid refl g new
          (misfit_on cx W width a.octets.now old.at mid (components_in cx a.depth a.node left at) (optional_count members left at)
          l.octets l.state new l.head l.invariant.1 v))
      | inr u ↦ inr u
    ]

pub encode_root-loop-index-preserved : goal.sequence::encode_root-loop-index-preserved
encode_root-loop-index-preserved t c =
    let a = c.args in
    let cx = a.context.now in
    let members = cx.tables.members.now in
    let old = a.state.now in
    let bits = c.put_presence-state in
    let mid = record old { at = bits.result } in
    let l = c.loop-index in
    let m = c.in-Some.member in
    let left = a.root.count - l.index in
    let at = a.root.from + l.index in
    let width = optional_count members a.root.count a.root.from in
    let k = c.encode_component in
    let new = k.new.state in
    let last = c.after-head.result in
    let is : slice_get members at ≡ Some m = sym c.member_from.ensures ∙ c.in-Some.is in
    let some : 0 < left = omega (arith, c.loop-index-test.true) in
    let fewer : left - 1 ≡ a.root.count - (l.index + 1) = omega arith in
    let next : at + 1 ≡ a.root.from + (l.index + 1) = omega arith in
    let move : (n : ℕ) → IsIndex l.head n → IsIndex last (n + presence_bits m.presence) =
    λ n h. subst (λ (j : ℕ). IsIndex last (n + j)) c.presence_bits.ensures.value (c.after-head.ensures n h) in (
      omega (arith, c.loop-index-test.true),
      let W = components_in cx a.depth a.node a.root.count a.root.from in
          let A = types cx a.depth m.node in
          let V = value_in cx a.depth a.node m.presence m.node in
          let o = subst (λ (b : Bool). ComponentOutcome cx V m.presence l.head l.octets l.state k.new.octets new b)
          c.if-not-encode_component.false k.ensures in
          let u = component_first cx a.depth a.node W width a.octets.now old.at mid m at is l.octets l.state l.head left some
          l.invariant.1 in
          let v = component_on cx a.depth a.node W width a.octets.now old.at mid A (components_in cx a.depth a.node (left - 1) (at + 1))
          (optional_count members (left - 1) (at + 1)) l.octets k.new.octets l.state new l.head last m.presence u o move in
          subst
          (λ (n : ℕ). AreUnderway cx W (components_in cx a.depth a.node n (a.root.from + (l.index + 1))) width
          (optional_count members n (a.root.from + (l.index + 1))) a.octets.now old.at mid k.new.octets new last) fewer
          (subst
          (λ (n : ℕ). AreUnderway cx W (components_in cx a.depth a.node (left - 1) n) width (optional_count members (left - 1) n)
          a.octets.now old.at mid k.new.octets new last) next v),
    )

pub encode_root-returns : goal.sequence::encode_root-returns
encode_root-returns t c =
    let a = c.args in
    let cx = a.context.now in
    let members = cx.tables.members.now in
    let old = a.state.now in
    let bits = c.put_presence-state in
    let mid = record old { at = bits.result } in
    let l = c.loop-index in
    let g = subst (λ (n : ℕ). IsGrown a.octets.now old.at bits.new.octets bits.result (digits 0 n)) c.count_optional.ensures bits.ensures in
    root_encoded cx a.depth a.node a.root a.octets.now bits.new.octets old mid refl g (a.root.from + l.index) (a.root.count - l.index)
    l.octets l.state l.head (omega (arith, c.loop-index-test.false)) l.invariant.1

pub encode_sequence-returns-in-None : goal.sequence::encode_sequence-returns-in-None
encode_sequence-returns-in-None t c =
    let a = c.args in
    let cx = a.context.now in
    let k = c.reject in
    after_none cx (sequence_in cx a.depth a.node a.root) a.octets.now a.octets.now a.state.now k.new.state k.result a.node
    (sym c.part_at.ensures ∙ c.in-None.is) k.ensures.result k.ensures.next k.ensures.node k.ensures.reason (λ at. refl)

pub encode_sequence-returns-then-not-is_sequence : goal.sequence::encode_sequence-returns-then-not-is_sequence
encode_sequence-returns-then-not-is_sequence t c =
    let a = c.args in
    let cx = a.context.now in
    let k = c.reject-then-not-is_sequence in
    let s = k.new.state in
    let T = sequence_in cx a.depth a.node a.root in
    let part = c.in-Some.part in
    let p = piece_in cx.tables.ranges.now cx.source.now part in
    after_put cx T part a.octets.now a.octets.now a.state.now s s (sym c.part_at.ensures ∙ c.in-Some.is) refl refl refl k.result k.result refl
    (rejected cx.is_aligned T p a.octets.now a.state.now s k.result a.node OtherPart k.ensures.result k.ensures.at k.ensures.next
    k.ensures.node k.ensures.reason
    (λ at rest. inr (λ u. c.is_sequence.ensures.other cx.tables.ranges.now cx.source.now c.if-not-is_sequence.true, refl)))
    (λ q. absurd (let e : true ≡ false = sym q ∙ k.ensures.result in cc)) (λ q. refl)

pub encode_sequence-overflow_add-state : goal.sequence::encode_sequence-overflow_add-state
encode_sequence-overflow_add-state t c =
    let is = sym c.part_at.ensures ∙ c.in-Some.is in
    let within = slice_get_within c.args.context.now.parts.now c.args.state.now.next c.in-Some.part is in
    omega (arith, within, c.requires.parts)

pub encode_sequence-returns-else-not-is_sequence : goal.sequence::encode_sequence-returns-else-not-is_sequence
encode_sequence-returns-else-not-is_sequence t c =
    let a = c.args in
    let cx = a.context.now in
    let old = a.state.now in
    let mid = record old { next = old.next + 1 } in
    let last = c.encode_root in
    let is = sym c.part_at.ensures ∙ c.in-Some.is in
    let e = c.is_sequence.ensures.is c.if-not-is_sequence.false in
    (part_step cx (λ at. constant tt) (λ u. Sequence a.root.count false) (λ u. root_in cx a.depth a.node a.root) a.node tt
    a.octets.now a.octets.now old mid
    (record { list = []; encodes = λ at h. (refl, refl); grown = grown_none a.octets.now old.at })
    (part_next cx old.next c.in-Some.part is ∙ ap (λ (p : Part). piece_in cx.tables.ranges.now cx.source.now p ∷ tape cx (old.next + 1)) e)).onward
    last.new.octets last.new.state last.result (last.ensures)
