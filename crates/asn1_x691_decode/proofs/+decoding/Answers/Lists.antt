-- Answers for the decoders of src/list.rt.
use Rattle.std.proofs.Common.{ℕ, ◌+◌, ◌-◌, ◌<◌, ◌≤◌, Bool, true, false, sym, subst, arith}
use Rattle.asn1_bits.specs.Bits.{bits}
use Rattle.asn1_schema.specs.Pieces.{Parts}
use Rattle.asn1_schema.specs.Encodings.{Encoding, Starts}
use Rattle.asn1_x691.specs.declared.fault.FaultKind.{FaultKind}
use Rattle.asn1_x691.specs.Strings.{bit}
use Rattle.asn1_x691_fields.specs.Outcomes.{rest, position, fault_of}
use Rattle.asn1_x691_fields.specs.Steps.{within_after, moved_over, fault_at}
use Rattle.asn1_x691_decode.specs.Decoding.{Outcome, types}
use Rattle.asn1_x691_decode.proofs.Steps.{over, fails_on, outcome_on, by_true, by_false}
use Rattle.asn1_schema.specs.declared.tables.Length.{Length}
use Rattle.asn1_schema.specs.declared.tables.Length.TheVariants.{AtLeast, Between}
use Rattle.asn1_x691.specs.declared.fault.FaultKind.TheVariants.{BelowLeast, InRoot}
use Rattle.asn1_x691.specs.Strings.{IsOfRoot, IsAddedSize}
use Rattle.asn1_x691_decode.specs.Decoding.{sequence_of_in, root_list_in, at_least_in, added_list_in, all_items_in, most_item_fragments}
use Rattle.asn1_x691_decode.proofs.FragmentSteps as steps
use Rattle.asn1_x691_decode.proofs.ListSteps as list
use Rattle.asn1_x691_decode.proofs.+decoding.Goals as goal

pub decode_at_least-returns-then-count-least-clause-did : goal.list::decode_at_least-returns-then-count-least-clause-did
decode_at_least-returns-then-count-least-clause-did t c =
    let cx = c.args.context.now in
    let bs = bits cx.octets.now in
    let a = c.args in
    let least = a.least in
    let now = c.decode_numbered_list.new in
    let new = c.fail.new.state in
    steps.list_size cx a.depth a.node a.item (λ n. least ≤ n) (λ n. n < least) BelowLeast most_item_fragments c.in-Some.count a.state.now now.state
    a.parts.now now.parts c.requires.within c.decode_numbered_list.ensures.moved c.in-Some.ensures.did (fault_of new) c.if-count-least.true
    (fault_at bs now.state new a.node BelowLeast c.decode_numbered_list.ensures.moved.inside c.fail.ensures.at c.fail.ensures.end
    c.fail.ensures.node c.fail.ensures.kind)

pub decode_at_least-returns-clause-did : goal.list::decode_at_least-returns-clause-did
decode_at_least-returns-clause-did t c =
    let cx = c.args.context.now in
    let a = c.args in
    let least = a.least in
    let now = c.decode_numbered_list.new in
    steps.list_done cx a.depth a.node a.item (λ n. least ≤ n) (λ n. n < least) BelowLeast most_item_fragments c.in-Some.count a.state.now now.state
    a.parts.now now.parts c.requires.within c.decode_numbered_list.ensures.moved c.in-Some.ensures.did (omega (arith, c.if-count-least.false))

pub decode_added_list-returns-then-is_of_root-clause-did : goal.list::decode_added_list-returns-then-is_of_root-clause-did
decode_added_list-returns-then-is_of_root-clause-did t c =
    let cx = c.args.context.now in
    let bs = bits cx.octets.now in
    let a = c.args in
    let now = c.decode_numbered_list.new in
    let new = c.fail.new.state in
    let L : Bool → ℕ → Encoding FaultKind Parts = λ b at. (added_list_in cx a.depth a.node b a.size a.item at).encoding in
    subst (λ (b : Bool). Outcome cx (L b) a.state.now new a.parts.now now.parts false) (sym c.if-is_set.false)
    (steps.list_size cx a.depth a.node a.item (IsAddedSize a.size) (IsOfRoot a.size) InRoot most_item_fragments c.in-Some.count a.state.now now.state
    a.parts.now now.parts c.requires.within c.decode_numbered_list.ensures.moved c.in-Some.ensures.did (fault_of new)
    (c.is_of_root.ensures.of_root c.if-is_of_root.true)
    (fault_at bs now.state new a.node InRoot c.decode_numbered_list.ensures.moved.inside c.fail.ensures.at c.fail.ensures.end
    c.fail.ensures.node c.fail.ensures.kind))

pub decode_added_list-returns-clause-did : goal.list::decode_added_list-returns-clause-did
decode_added_list-returns-clause-did t c =
    let cx = c.args.context.now in
    let a = c.args in
    let now = c.decode_numbered_list.new in
    let L : Bool → ℕ → Encoding FaultKind Parts = λ b at. (added_list_in cx a.depth a.node b a.size a.item at).encoding in
    subst (λ (b : Bool). Outcome cx (L b) a.state.now now.state a.parts.now now.parts true) (sym c.if-is_set.false)
    (steps.list_done cx a.depth a.node a.item (IsAddedSize a.size) (IsOfRoot a.size) InRoot most_item_fragments c.in-Some.count a.state.now now.state
    a.parts.now now.parts c.requires.within c.decode_numbered_list.ensures.moved c.in-Some.ensures.did
    (c.is_of_root.ensures.added c.if-is_of_root.false))

pub decode_added_set-returns-clause-did : goal.list::decode_added_set-returns-clause-did
decode_added_set-returns-clause-did t c =
    let cx = c.args.context.now in
    let a = c.args in
    let now = c.push.new in
    let last = c.decode_each in
    outcome_on cx (λ at. (added_list_in cx a.depth a.node true a.size a.item at).encoding) (list.S cx a.depth a.node a.item c.in-Some.count) a.state.now now.state
    last.new.state a.parts.now now.parts last.new.parts last.result
    (list.added_step cx a.depth a.node a.item a.size c.in-Some.count a.state.now c.next_added_length.new.state now.state a.parts.now now.parts
    c.requires.within c.next_added_length.ensures.onward c.in-Some.ensures.read
    (record { at = c.push.ensures.at; first = c.push.ensures.first; end = c.push.ensures.end }) (c.push.ensures.grown cx.tables.ranges.now (bits cx.octets.now)))
    last.ensures.did

pub decode_set_at_least-returns-clause-did : goal.list::decode_set_at_least-returns-clause-did
decode_set_at_least-returns-clause-did t c =
    let cx = c.args.context.now in
    let a = c.args in
    let now = c.push.new in
    let last = c.decode_each in
    outcome_on cx (λ at. (at_least_in cx a.depth a.node true a.least a.item at).encoding) (list.S cx a.depth a.node a.item c.in-Some.count) a.state.now now.state
    last.new.state a.parts.now now.parts last.new.parts last.result
    (list.at_least_step cx a.depth a.node a.item a.least c.in-Some.count a.state.now c.next_length_at_least.new.state now.state a.parts.now now.parts
    c.requires.within c.next_length_at_least.ensures.onward c.in-Some.ensures.read
    (record { at = c.push.ensures.at; first = c.push.ensures.first; end = c.push.ensures.end }) (c.push.ensures.grown cx.tables.ranges.now (bits cx.octets.now)))
    last.ensures.did

pub decode_root_list-returns-in-Some-clause-did : goal.list::decode_root_list-returns-in-Some-clause-did
decode_root_list-returns-in-Some-clause-did t c =
    let cx = c.args.context.now in
    let a = c.args in
    let p = c.push in
    let now = p.new in
    let last = c.decode_each in
    let d = c.in-Some.more in
    let L : Length → ℕ → Encoding FaultKind Parts = λ size at. (root_list_in cx a.depth a.node a.is_set size a.item at).encoding in
    subst (λ (size : Length). Outcome cx (L size) a.state.now last.new.state a.parts.now last.new.parts last.result) (sym c.in-Between.is)
    (outcome_on cx (L (Between c.in-Between.least c.in-Between.range)) (list.L cx a.depth a.node a.is_set a.item (c.in-Between.least + d)) a.state.now now.state
    last.new.state a.parts.now now.parts last.new.parts last.result
    (list.between_step cx a.depth a.node a.is_set a.item c.in-Between.least c.in-Between.range d a.state.now c.next_constrained.new.state now.state a.parts.now now.parts
    c.requires.within c.next_constrained.ensures.onward c.in-Some.ensures.read
    (record { at = p.ensures.at; first = p.ensures.first; end = p.ensures.end }) (p.ensures.grown cx.tables.ranges.now (bits cx.octets.now)))
    last.ensures.did)

pub decode_list-returns-in-Some-true-clause-did : goal.list::decode_list-returns-in-Some-true-clause-did
decode_list-returns-in-Some-true-clause-did t c =
    let cx = c.args.context.now in
    let bs = bits cx.octets.now in
    let a = c.args in
    let mid = c.next_bit.new.state in
    let last = c.decode_added_list in
    let S : Bool → ℕ → Encoding FaultKind Parts = λ x at. (sequence_of_in cx a.depth a.node x a.is_set a.size.now a.item at).encoding in
    subst (λ (x : Bool). Outcome cx (S x) a.state.now last.new.state a.parts.now last.new.parts last.result) (sym c.if-not-is_extensible.false)
    (outcome_on cx (S true) (list.after_bit cx a.depth a.node a.is_set a.item a.size.now true) a.state.now mid last.new.state a.parts.now a.parts.now
    last.new.parts last.result
    (list.bit_step cx a.depth a.node a.is_set a.item a.size.now true a.state.now mid a.parts.now c.requires.within c.next_bit.ensures.onward
    (subst (λ (b : Bool). Starts (bit a.node).encodes (rest bs a.state.now) b (rest bs mid)) c.in-Some-true.field-0-test
    c.in-Some-true.ensures.read))
    last.ensures.did)

pub decode_list-returns-in-Some-false-clause-did : goal.list::decode_list-returns-in-Some-false-clause-did
decode_list-returns-in-Some-false-clause-did t c =
    let cx = c.args.context.now in
    let bs = bits cx.octets.now in
    let a = c.args in
    let mid = c.next_bit.new.state in
    let last = c.decode_root_list-in-Some-false in
    let S : Bool → ℕ → Encoding FaultKind Parts = λ x at. (sequence_of_in cx a.depth a.node x a.is_set a.size.now a.item at).encoding in
    subst (λ (x : Bool). Outcome cx (S x) a.state.now last.new.state a.parts.now last.new.parts last.result) (sym c.if-not-is_extensible.false)
    (outcome_on cx (S true) (list.after_bit cx a.depth a.node a.is_set a.item a.size.now false) a.state.now mid last.new.state a.parts.now a.parts.now
    last.new.parts last.result
    (list.bit_step cx a.depth a.node a.is_set a.item a.size.now false a.state.now mid a.parts.now c.requires.within c.next_bit.ensures.onward
    (subst (λ (b : Bool). Starts (bit a.node).encodes (rest bs a.state.now) b (rest bs mid)) c.in-Some-false.field-0-test
    c.in-Some-false.ensures.read))
    last.ensures.did)

pub decode_items-returns-then-not-decode_node-clause-did : goal.list::decode_items-returns-then-not-decode_node-clause-did
decode_items-returns-then-not-decode_node-clause-did t c =
    let cx = c.args.context.now in
    let a = c.args in
    let l = c.loop-left in
    let one = c.decode_node in
    let V : ℕ → Encoding FaultKind Parts = λ at. (types cx a.depth a.item at).encoding in
    fails_on cx (list.I cx a.depth a.item a.count) (list.I cx a.depth a.item l.left) a.state.now l.state one.new.state a.parts.now l.parts one.new.parts
    l.invariant.2
    (list.item_fault cx a.depth a.item l.left (position l.state) (rest (bits cx.octets.now) l.state) (fault_of one.new.state)
    (omega (arith, c.loop-left-test.true)) (by_false cx V l.state one.new.state l.parts one.new.parts one.result c.if-not-decode_node.true one.ensures.did))

pub decode_items-loop-left-preserved : goal.list::decode_items-loop-left-preserved
decode_items-loop-left-preserved t c =
    let cx = c.args.context.now in
    let bs = bits cx.octets.now in
    let a = c.args in
    let l = c.loop-left in
    let one = c.decode_node in
    let V : ℕ → Encoding FaultKind Parts = λ at. (types cx a.depth a.item at).encoding in (
      within_after bs l.state one.new.state l.invariant.0 one.ensures.moved,
      moved_over bs a.state.now l.state one.new.state l.invariant.1 one.ensures.moved,
      over cx (list.I cx a.depth a.item a.count) (list.I cx a.depth a.item l.left) (list.I cx a.depth a.item (l.left - 1))
          a.state.now l.state one.new.state a.parts.now l.parts one.new.parts l.invariant.2
          (list.item_step cx a.depth a.item l.left (l.left - 1) l.state one.new.state l.parts one.new.parts (omega (arith, c.loop-left-test.true))
          l.invariant.0 one.ensures.moved
          (by_true cx V l.state one.new.state l.parts one.new.parts one.result c.if-not-decode_node.false one.ensures.did)),
    )

pub decode_items-returns-clause-did : goal.list::decode_items-returns-clause-did
decode_items-returns-clause-did t c =
    let cx = c.args.context.now in
    let l = c.loop-left in
    l.invariant.2.done l.state l.parts
    (list.no_items cx c.args.depth c.args.item l.left l.state l.parts (omega (arith, c.loop-left-test.false)))

pub decode_each-returns-then-is_set-clause-did : goal.list::decode_each-returns-then-is_set-clause-did
decode_each-returns-then-is_set-clause-did t c =
    let cx = c.args.context.now in
    let a = c.args in
    let o = c.decode_set_items in
    subst (λ (b : Bool). Outcome cx (λ at. (all_items_in cx a.depth a.node b a.item a.count at).encoding) a.state.now o.new.state
    a.parts.now o.new.parts o.result) (sym c.if-is_set.true) o.ensures.did

pub decode_each-returns-clause-did : goal.list::decode_each-returns-clause-did
decode_each-returns-clause-did t c =
    let cx = c.args.context.now in
    let a = c.args in
    let o = c.decode_items in
    subst (λ (b : Bool). Outcome cx (λ at. (all_items_in cx a.depth a.node b a.item a.count at).encoding) a.state.now o.new.state
    a.parts.now o.new.parts o.result) (sym c.if-is_set.false) o.ensures.did
