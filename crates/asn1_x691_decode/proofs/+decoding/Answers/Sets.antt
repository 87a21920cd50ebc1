-- Answers for the decoders of src/set.rt.
use Rattle.std.proofs.Common.{◌≡◌, ℕ, ◌-◌, Bool, true, false, List, [], refl, sym, ◌∙◌, subst, arith, inl}
use Rattle.asn1_bits.specs.Bits.{bits}
use Rattle.std.specs.declared.cmp.Ordering.TheVariants.{Less}
use Rattle.asn1_bits.specs.BitLists.{bits_cmp}
use Rattle.asn1_bits.specs.Laws.DigitLaws.{length-bits}
use Rattle.asn1_schema.specs.Pieces.{Parts}
use Rattle.asn1_schema.specs.PiecesOfParts.{bits_at}
use Rattle.asn1_schema.specs.Encodings.{Encoding}
use Rattle.asn1_x691.specs.declared.fault.FaultKind.{FaultKind}
use Rattle.asn1_x691.specs.declared.fault.FaultKind.TheVariants.{NotAscending, Unsupported}
use Rattle.asn1_schema.specs.declared.misfit.MisfitKind.TheVariants as misfit
use Rattle.asn1_schema.specs.TypeEncodings.{except_type}
use Rattle.asn1_x691.specs.Limits.{IsOffOctet}
use Rattle.asn1_x691.specs.Types.{IsMisplaced}
use Rattle.asn1_x691_fields.specs.Outcomes.{rest, position, fault_of}
use Rattle.asn1_x691_fields.specs.Steps.{within_after, moved_over, front_length, fault_at}
use Rattle.asn1_x691_decode.specs.Decoding.{types}
use Rattle.asn1_x691_decode.proofs.Steps.{IsUnderway, same_step, over, fails_on, by_true, by_false}
use Rattle.asn1_x691_decode.proofs.ExceptSteps.{front_bits, other_decoded, other_fault}
use Rattle.asn1_x691_decode.proofs.SetSteps as set
use Rattle.asn1_x691_decode.proofs.+decoding.Goals as goal

pub decode_set_items-returns-then-not-decode_item-clause-did : goal.set::decode_set_items-returns-then-not-decode_item-clause-did
decode_set_items-returns-then-not-decode_item-clause-did t c =
    let cx = c.args.context.now in
    let a = c.args in
    let l = c.loop-left in
    let one = c.decode_item in
    let before : List Bool = bits_at (bits cx.octets.now) l.before (l.state.at - l.before) in
    fails_on cx (set.I cx a.depth a.node a.item [] a.count) (set.I cx a.depth a.node a.item before l.left) a.state.now l.state one.new.state
    a.parts.now l.parts one.new.parts l.invariant.3
    (set.item_fault cx a.depth a.node a.item before l.left (position l.state) (rest (bits cx.octets.now) l.state) (fault_of one.new.state)
    (omega (arith, c.loop-left-test.true)) (by_false cx (set.O cx a.depth a.node a.item before) l.state one.new.state l.parts one.new.parts one.result c.if-not-decode_item.true one.ensures.did))

pub decode_set_items-loop-left-init : goal.set::decode_set_items-loop-left-init
decode_set_items-loop-left-init t c =
    let cx = c.args.context.now in
    let a = c.args in
    let s = a.state.now in
    let h = c.requires.within in
    let I : List Bool → ℕ → Encoding FaultKind Parts = λ l at. set.I cx a.depth a.node a.item l a.count at in (
      h,
      record { same_first = refl; same_end = refl; on = omega arith; ends = h.ends; inside = h.inside },
      record { begins = h.begins; ends = omega arith; is = inl refl },
      subst (λ (l : List Bool). IsUnderway cx (I []) (I l) s s a.parts.now a.parts.now) (sym (set.nothing_before cx a.depth a.node a.item s))
          (same_step cx (I []) s a.parts.now),
    )

pub decode_set_items-loop-left-preserved : goal.set::decode_set_items-loop-left-preserved
decode_set_items-loop-left-preserved t c =
    let cx = c.args.context.now in
    let bs = bits cx.octets.now in
    let a = c.args in
    let l = c.loop-left in
    let one = c.decode_item in
    let before : List Bool = bits_at bs l.before (l.state.at - l.before) in
    let d = by_true cx (set.O cx a.depth a.node a.item before) l.state one.new.state l.parts one.new.parts one.result
    c.if-not-decode_item.false one.ensures.did in (
      within_after bs l.state one.new.state l.invariant.0 one.ensures.moved,
      moved_over bs a.state.now l.state one.new.state l.invariant.1 one.ensures.moved,
      set.item_before cx a.depth a.node a.item before l.state one.new.state l.parts one.new.parts l.invariant.0 one.ensures.moved d,
      over cx (set.I cx a.depth a.node a.item [] a.count) (set.I cx a.depth a.node a.item before l.left)
          (set.I cx a.depth a.node a.item (bits_at bs l.state.at (one.new.state.at - l.state.at)) (l.left - 1))
          a.state.now l.state one.new.state a.parts.now l.parts one.new.parts l.invariant.3
          (set.item_step cx a.depth a.node a.item before l.left (l.left - 1) l.state one.new.state l.parts one.new.parts
          (omega (arith, c.loop-left-test.true)) l.invariant.0 one.ensures.moved d),
    )

pub decode_set_items-returns-clause-did : goal.set::decode_set_items-returns-clause-did
decode_set_items-returns-clause-did t c =
    let cx = c.args.context.now in
    let a = c.args in
    let l = c.loop-left in
    l.invariant.3.done l.state l.parts
    (set.no_items cx a.depth a.node a.item (bits_at (bits cx.octets.now) l.before (l.state.at - l.before)) l.left l.state l.parts
    (omega (arith, c.loop-left-test.false)))

pub decode_item-is_before-requires-clause-inside : goal.set::decode_item-is_before-requires-clause-inside
decode_item-is_before-requires-clause-inside t c =
    omega (arith, length-bits c.args.context.now.octets.now, c.decode_node.ensures.moved.ends, c.decode_node.ensures.moved.inside)

pub decode_item-returns-then-not-decode_node-clause-did : goal.set::decode_item-returns-then-not-decode_node-clause-did
decode_item-returns-then-not-decode_node-clause-did t c =
    let cx = c.args.context.now in
    let a = c.args in
    let one = c.decode_node in
    inl (inl (by_false cx (λ at. (types cx a.depth a.item at).encoding) a.state.now one.new.state a.parts.now one.new.parts one.result
    c.if-not-decode_node.true one.ensures.did))

pub decode_item-returns-then-is_off_octet-clause-did : goal.set::decode_item-returns-then-is_off_octet-clause-did
decode_item-returns-then-is_off_octet-clause-did t c =
    let cx = c.args.context.now in
    let a = c.args in
    let one = c.decode_node in
    let list = bits cx.octets.now in
    let at = position a.state.now in
    let before : List Bool = bits_at list a.before (a.state.now.at - a.before) in
    let d = by_true cx (λ at. (types cx a.depth a.item at).encoding) a.state.now one.new.state a.parts.now one.new.parts one.result
    c.if-not-decode_node.false one.ensures.did in
    inl ((other_fault cx (λ l. IsOffOctet true cx.is_aligned before at) Unsupported misfit.Unsupported a.node (types cx a.depth a.item at)
    a.state.now one.new.state c.fail.new.state a.parts.now one.new.parts d
    ((c.is_off_octet.ensures before
    (front_length list a.before (a.state.now.at - a.before)
    (omega (arith, c.requires.before.ends, c.requires.within.ends, c.requires.within.inside)))).0 c.if-is_off_octet.true)
    (fault_at list a.state.now c.fail.new.state a.node Unsupported c.requires.within.inside
    c.fail.ensures.at (c.fail.ensures.end ∙ one.ensures.moved.same_end) c.fail.ensures.node c.fail.ensures.kind)))

not_both : (b : Bool) → b ≡ false → b ≡ true → ⊥
not_both b e f = cc

pub decode_item-returns-then-is_before-clause-did : goal.set::decode_item-returns-then-is_before-clause-did
decode_item-returns-then-is_before-clause-did t c =
    let cx = c.args.context.now in
    let a = c.args in
    let one = c.decode_node in
    let list = bits cx.octets.now in
    let s = a.state.now in
    let at = position s in
    let before : List Bool = bits_at list a.before (s.at - a.before) in
    let A = types cx a.depth a.item at in
    let d = by_true cx (λ n. (types cx a.depth a.item n).encoding) s one.new.state a.parts.now one.new.parts one.result
    c.if-not-decode_node.false one.ensures.did in
    let bs = front_bits list s one.new.state c.requires.within one.ensures.moved A.encoding.encodes d.parts d.starts in
    let on : IsOffOctet true cx.is_aligned before at → ⊥ =
    λ w. not_both c.is_off_octet.result c.if-is_off_octet.false
    ((c.is_off_octet.ensures before
    (front_length list a.before (s.at - a.before)
    (omega (arith, c.requires.before.ends, c.requires.within.ends, c.requires.within.inside)))).1 w) in
    let less : bits_cmp d.starts.front before ≡ Less =
    subst (λ (l : List Bool). bits_cmp l before ≡ Less) (sym bs) (c.is_before.ensures.0 c.if-is_before.true) in
    let Off : List Bool → Type 0 = λ l. IsOffOctet true cx.is_aligned before at in
    (other_fault cx (λ l. IsMisplaced cx.is_aligned (λ n. types cx a.depth a.item n) before at l) NotAscending misfit.NotAscending a.node
    (except_type Off Unsupported misfit.Unsupported a.node A) s one.new.state c.fail-then-is_before.new.state a.parts.now one.new.parts
    (other_decoded cx Off Unsupported misfit.Unsupported a.node A s one.new.state a.parts.now one.new.parts d on)
    (set.misplaced_item cx a.depth a.item s a.before d.parts d.starts.front c.requires.within c.requires.before on d.starts.encoded less)
    (fault_at list s c.fail-then-is_before.new.state a.node NotAscending c.requires.within.inside c.fail-then-is_before.ensures.at
    (c.fail-then-is_before.ensures.end ∙ one.ensures.moved.same_end) c.fail-then-is_before.ensures.node c.fail-then-is_before.ensures.kind))

pub decode_item-returns-clause-did : goal.set::decode_item-returns-clause-did
decode_item-returns-clause-did t c =
    let cx = c.args.context.now in
    let a = c.args in
    let one = c.decode_node in
    let list = bits cx.octets.now in
    let s = a.state.now in
    let at = position s in
    let before : List Bool = bits_at list a.before (s.at - a.before) in
    let A = types cx a.depth a.item at in
    let d = by_true cx (λ n. (types cx a.depth a.item n).encoding) s one.new.state a.parts.now one.new.parts one.result
    c.if-not-decode_node.false one.ensures.did in
    let bs = front_bits list s one.new.state c.requires.within one.ensures.moved A.encoding.encodes d.parts d.starts in
    let on : IsOffOctet true cx.is_aligned before at → ⊥ =
    λ w. not_both c.is_off_octet.result c.if-is_off_octet.false
    ((c.is_off_octet.ensures before
    (front_length list a.before (s.at - a.before)
    (omega (arith, c.requires.before.ends, c.requires.within.ends, c.requires.within.inside)))).1 w) in
    let Off : List Bool → Type 0 = λ l. IsOffOctet true cx.is_aligned before at in
    other_decoded cx (λ l. IsMisplaced cx.is_aligned (λ n. types cx a.depth a.item n) before at l) NotAscending misfit.NotAscending a.node
    (except_type Off Unsupported misfit.Unsupported a.node A) s one.new.state a.parts.now one.new.parts
    (other_decoded cx Off Unsupported misfit.Unsupported a.node A s one.new.state a.parts.now one.new.parts d on)
    (λ w. not_both c.is_before.result c.if-is_before.false
    (c.is_before.ensures.1
    (subst (λ (l : List Bool). bits_cmp l before ≡ Less) bs (set.in_place cx a.depth a.item before at d.starts.front on w))))
