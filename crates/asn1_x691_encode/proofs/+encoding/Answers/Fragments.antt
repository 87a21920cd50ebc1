-- Answers for the encoders of src/fragments.rt.
use Rattle.std.proofs.Common.{◌≡◌, ℕ, ◌+◌, ◌-◌, ◌*◌, ◌/◌, ◌%◌, ◌<◌, Bool, true, false, refl, sym, subst, arith}
use Rattle.asn1_schema.specs.TypeEncodings.{nothing, several}
use Rattle.asn1_x691_encode.specs.Encoding.{Outcome, types, numbered_in}
use Rattle.asn1_x691_encode.specs.ListSteps.{underway_first}
use Rattle.asn1_x691_encode.specs.FragmentSteps as steps
use Rattle.asn1_x691_encode.proofs.+encoding.Goals as goal

pub encode_items_below-returns-then-count-lt16384 : goal.fragments::encode_items_below-returns-then-count-lt16384
encode_items_below-returns-then-count-lt16384 t c =
    let cx = c.args.context.now in
    let a = c.args in
    let n = a.count in
    let old = a.state.now in
    let put = c.put_number_of_units-state in
    let mid = record old { at = put.result } in
    let last = c.encode_items in
    steps.few_items cx a.depth a.node a.item n a.octets.now last.new.octets old last.new.state last.result c.if-count-lt16384.true
    (steps.last_done cx a.depth a.node a.item n a.octets.now put.new.octets last.new.octets old mid last.new.state last.result
    (put.ensures a.node) refl last.ensures)

pub encode_items_below-returns-then-not-encode_items : goal.fragments::encode_items_below-returns-then-not-encode_items
encode_items_below-returns-then-not-encode_items t c =
    let cx = c.args.context.now in
    let a = c.args in
    let n = a.count in
    let old = a.state.now in
    let m = 16384 * (n / 16384) in
    let r = n % 16384 in
    let put = c.put_fragment_number-state in
    let mid = record old { at = put.result } in
    let one = c.encode_items-2 in
    steps.more_items cx a.depth a.node a.item n a.octets.now one.new.octets old one.new.state false (omega (arith, c.if-count-lt16384.false))
    (steps.fragment_fails cx a.depth a.node a.item m (steps.Fragment cx a.depth a.node a.item r nothing) a.octets.now put.new.octets old mid
    (put.ensures a.node) refl one.new.octets one.new.state
    (subst (λ (b : Bool). Outcome cx (several (types cx a.depth a.item) m) put.new.octets mid one.new.octets one.new.state b)
    c.if-not-encode_items.true one.ensures))

pub encode_items_below-returns : goal.fragments::encode_items_below-returns
encode_items_below-returns t c =
    let cx = c.args.context.now in
    let a = c.args in
    let n = a.count in
    let old = a.state.now in
    let m = 16384 * (n / 16384) in
    let r = n % 16384 in
    let put = c.put_fragment_number-state in
    let mid = record old { at = put.result } in
    let one = c.encode_items-2 in
    let more = c.put_number_of_units-state-2 in
    let far = record one.new.state { at = more.result } in
    let last = c.encode_items-3 in
    steps.more_items cx a.depth a.node a.item n a.octets.now last.new.octets old last.new.state last.result (omega (arith, c.if-count-lt16384.false))
    ((steps.fragment_step cx a.depth a.node a.item m (steps.Fragment cx a.depth a.node a.item r nothing) a.octets.now put.new.octets old mid
    (put.ensures a.node) refl one.new.octets one.new.state
    (subst (λ (b : Bool). Outcome cx (several (types cx a.depth a.item) m) put.new.octets mid one.new.octets one.new.state b)
    c.if-not-encode_items.false one.ensures)).onward last.new.octets last.new.state last.result
    (steps.last_done cx a.depth a.node a.item r one.new.octets more.new.octets last.new.octets one.new.state far last.new.state last.result
    (more.ensures a.node) refl last.ensures))

pub encode_numbered_items-loop-whole-preserved : goal.fragments::encode_numbered_items-loop-whole-preserved
encode_numbered_items-loop-whole-preserved t c =
    let cx = c.args.context.now in
    let a = c.args in
    let l = c.loop-whole in
    let put = c.put_fragment_number-state in
    let last = record l.state { at = put.result } in
    let one = c.encode_items in
    steps.whole_step cx a.depth a.node a.item (a.count % 65536) (numbered_in cx a.depth a.node a.item a.count) a.octets.now l.octets a.state.now
    l.state l.whole put.new.octets one.new.octets last one.new.state c.loop-whole-test.true l.invariant (put.ensures a.node) refl
    (subst (λ (b : Bool). Outcome cx (several (types cx a.depth a.item) 65536) put.new.octets last one.new.octets one.new.state b)
    c.if-not-encode_items.false one.ensures)

pub encode_numbered_items-returns-then-not-encode_items : goal.fragments::encode_numbered_items-returns-then-not-encode_items
encode_numbered_items-returns-then-not-encode_items t c =
    let cx = c.args.context.now in
    let a = c.args in
    let l = c.loop-whole in
    let put = c.put_fragment_number-state in
    let last = record l.state { at = put.result } in
    let one = c.encode_items in
    steps.whole_fails cx a.depth a.node a.item (a.count % 65536) (numbered_in cx a.depth a.node a.item a.count) a.octets.now l.octets a.state.now
    l.state l.whole put.new.octets one.new.octets last one.new.state c.loop-whole-test.true l.invariant (put.ensures a.node) refl
    (subst (λ (b : Bool). Outcome cx (several (types cx a.depth a.item) 65536) put.new.octets last one.new.octets one.new.state b)
    c.if-not-encode_items.true one.ensures)

pub encode_numbered_items-returns : goal.fragments::encode_numbered_items-returns
encode_numbered_items-returns t c =
    let cx = c.args.context.now in
    let a = c.args in
    let l = c.loop-whole in
    let last = c.encode_items_below in
    steps.whole_done cx a.depth a.node a.item (a.count % 65536) (numbered_in cx a.depth a.node a.item a.count) a.octets.now l.octets a.state.now
    l.state l.whole last.new.octets last.new.state last.result (omega (arith, c.loop-whole-test.false)) l.invariant last.ensures
