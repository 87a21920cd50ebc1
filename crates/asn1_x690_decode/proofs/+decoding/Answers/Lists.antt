-- Answers for the decoders of src/list.rt.
use Rattle.std.proofs.Common.{◌≡◌, ℕ, ◌+◌, ◌-◌, ◌<◌, List, [], ◌∷◌, Bool, true, false, length, refl, sym, ◌∙◌, ap, subst, arith, inl, inr}
use Rattle.std.specs.declared.cmp.Ordering.TheVariants.{Less}
use Rattle.asn1_bits.specs.Bits.{bits}
use Rattle.asn1_bits.specs.BitLists.{bits_cmp}
use Rattle.asn1_bits.specs.Laws.DigitLaws.{length-bits}
use Rattle.asn1_schema.specs.Pieces.{Count}
use Rattle.asn1_schema.specs.PiecesOfParts.{bits_at}
use Rattle.asn1_x690.specs.declared.fault.FaultKind.TheVariants.{Extra, NotAscending}
use Rattle.asn1_x690_fields.specs.Outcomes.{rest, fault_of}
use Rattle.asn1_x690_decode.specs.Tables.{types, elements}
use Rattle.asn1_x690_decode.proofs.StateSteps.{grown_over, fault_here, none_moved, moved_over, moved_within, front_is, some_front}
use Rattle.asn1_x690_decode.proofs.ElementSteps.{element_fails, element_found}
use Rattle.asn1_x690_decode.proofs.ItemSteps.{begins, ends, fails, goes_on}
use Rattle.asn1_x690_decode.proofs.ListSteps.{Item, none_before, item_starts, item_fault, misplaced}
use Rattle.asn1_x690_decode.proofs.+decoding.Goals as goal
use Rattle.asn1_x690_decode.proofs.+decoding.Goals.{list::decode_items-else-is_set-via-then-is_set+then-before-from+else-is_before, list::decode_items-else-is_set-via-then-is_set+else-before-from, list::decode_items-else-is_set-via-else-is_set}

pub decode_items-loop-state-init : goal.list::decode_items-loop-state-init
decode_items-loop-state-init t c =
    let a = c.args in
    let context = a.context.now in
    let list = bits context.octets.now in
    let s = a.state.now in
    let none : bits_at list s.at (s.at - s.at) ≡ [] = (let e : s.at - s.at ≡ 0 = omega arith in ap (λ (n : ℕ). bits_at list s.at n) e) in
    record {
      moved = none_moved list s s c.requires.within refl refl;
      order = omega arith;
      few = omega arith;
      last = inl none;
      underway = begins Extra a.node (Item context a.depth a.node a.item a.is_set) context.tables.ranges.now list s a.parts.now
          (bits_at list s.at (s.at - s.at)) none;
    }

pub decode_items-is_before-requires-clause-inside : goal.list::decode_items-is_before-requires-clause-inside
decode_items-is_before-requires-clause-inside t c =
    let m = c.decode_element.ensures.moved in
    let ends = m.ends in
    let inside = m.inside in
    omega (arith, length-bits c.args.context.now.octets.now, ends, inside)

pub decode_items-returns-then-not-decode_element-clause-did : goal.list::decode_items-returns-then-not-decode_element-clause-did
decode_items-returns-then-not-decode_element-clause-did t c =
    let a = c.args in
    let context = a.context.now in
    let list = bits context.octets.now in
    let l = c.loop-state in
    let d = c.decode_element in
    let before = bits_at list l.before (l.state.at - l.before) in
    fails Extra a.node (Item context a.depth a.node a.item a.is_set) context.tables.ranges.now list a.state.now l.state a.parts.now l.parts
    before l.count l.invariant.underway (moved_within list a.state.now l.state l.invariant.moved) c.loop-state-test.true (fault_of d.new.state)
    (item_fault context a.depth a.node a.item a.is_set before (rest list l.state) (fault_of d.new.state)
    (element_fails context a.item (types context a.depth a.item) l.state d.new.state l.parts d.new.parts d.result
    c.if-not-decode_element.true d.ensures.did))

pub decode_items-returns-then-is_before-clause-did : goal.list::decode_items-returns-then-is_before-clause-did
decode_items-returns-then-is_before-clause-did t c =
    let a = c.args in
    let context = a.context.now in
    let list = bits context.octets.now in
    let l = c.loop-state in
    let d = c.decode_element in
    let before = bits_at list l.before (l.state.at - l.before) in
    let f = element_found context a.item (types context a.depth a.item) l.state d.new.state l.parts d.new.parts d.result
    c.if-not-decode_element.false d.ensures.did in
    let front = front_is (elements context a.depth a.item).encoding.encodes list l.state d.new.state f.parts d.ensures.moved f.are in
    let within = moved_within list a.state.now l.state l.invariant.moved in
    fails Extra a.node (Item context a.depth a.node a.item a.is_set) context.tables.ranges.now list a.state.now l.state a.parts.now l.parts
    before l.count l.invariant.underway within c.loop-state-test.true (fault_of c.fail.new.state)
    (misplaced context a.depth a.node a.item before (rest list l.state) f.parts (rest list d.new.state) f.are a.is_set (fault_of c.fail.new.state)
    c.if-is_set.true (subst (λ (k : List Bool). bits_cmp k before ≡ Less) (sym front) (c.is_before.ensures.0 c.if-is_before.true))
    l.invariant.last
    (fault_here list l.state c.fail.new.state a.node NotAscending within.inside c.fail.ensures.at
    (c.fail.ensures.end ∙ d.ensures.moved.same_end) c.fail.ensures.node c.fail.ensures.kind))

pub decode_items-loop-state-preserved : goal.list::decode_items-loop-state-preserved
decode_items-loop-state-preserved t c =
    let a = c.args in
    let context = a.context.now in
    let list = bits context.octets.now in
    let l = c.loop-state in
    let d = c.decode_element in
    let before = bits_at list l.before (l.state.at - l.before) in
    let f = element_found context a.item (types context a.depth a.item) l.state d.new.state l.parts d.new.parts d.result
    c.if-not-decode_element.false d.ensures.did in
    let front = front_is (elements context a.depth a.item).encoding.encodes list l.state d.new.state f.parts d.ensures.moved f.are in
    let not : a.is_set ≡ true → bits_cmp f.are.front before ≡ Less → ⊥ = elim c.else-is_set.branch [
      | list::decode_items-else-is_set-via-then-is_set+else-before-from w ↦
          λ e less.
          let order = l.invariant.order in
          let none : l.state.at - l.before ≡ 0 = omega (arith, order, w.if-before-from.false) in
          none_before f.are.front
          (subst (λ (k : List Bool). bits_cmp f.are.front k ≡ Less) (ap (λ (n : ℕ). bits_at list l.before n) none) less)
      | list::decode_items-else-is_set-via-then-is_set+then-before-from+else-is_before w ↦
          λ e less.
          let k : true ≡ false = sym (w.is_before.ensures.1 (subst (λ (k : List Bool). bits_cmp k before ≡ Less) front less)) ∙ w.if-is_before.false in
          cc
      | list::decode_items-else-is_set-via-else-is_set w ↦ λ e less. let k : true ≡ false = sym e ∙ w.if-is_set.false in cc
    ] in
    let s = item_starts context a.depth a.node a.item before (rest list l.state) f.parts (rest list d.new.state) f.are a.is_set not in
    let on = d.ensures.some c.if-not-decode_element.false in
    let few = l.invariant.few in
    record {
      moved = moved_over list a.state.now l.state d.new.state l.invariant.moved d.ensures.moved;
      order = omega (arith, on);
      few = omega (arith, on, few);
      last = inr (f.parts, subst (λ (k : List Bool). (elements context a.depth a.item).encoding.encodes f.parts k) front f.are.encoded);
      underway = goes_on Extra a.node (Item context a.depth a.node a.item a.is_set) context.tables.ranges.now list a.state.now l.state
          a.parts.now l.parts before l.count l.invariant.underway d.new.state d.new.parts f.parts s.0
          (subst (λ (k : List Bool). 0 < length k) (sym s.1) (some_front list f.are.front l.state d.new.state d.ensures.moved front on))
          (bits_at list l.state.at (d.new.state.at - l.state.at)) (sym front ∙ sym s.1) (l.count + 1) refl f.grown;
    }

pub decode_items-returns-clause-did : goal.list::decode_items-returns-clause-did
decode_items-returns-clause-did t c =
    let a = c.args in
    let context = a.context.now in
    let list = bits context.octets.now in
    let l = c.loop-state in
    let not = c.loop-state-test.false in
    ends Extra a.node (Item context a.depth a.node a.item a.is_set) context.tables.ranges.now list a.state.now l.state a.parts.now l.parts
    (bits_at list l.before (l.state.at - l.before)) l.count l.invariant.underway (moved_within list a.state.now l.state l.invariant.moved)
    (λ lt. omega (arith, lt, not))

pub decode_list-returns-else-not-has_size-clause-did : goal.list::decode_list-returns-else-not-has_size-clause-did
decode_list-returns-else-not-has_size-clause-did t c =
    let a = c.args in
    let context = a.context.now in
    let list = bits context.octets.now in
    let ranges = context.tables.ranges.now in
    let s = a.state.now in
    let k = c.in-Some.ensures.did in
    let d = c.decode_items in
    record {
      parts = Count c.in-Some.count ∷ k.parts;
      are = ((c.in-Some.count, k.parts), (k.are, c.has_size.ensures.yes c.if-not-has_size.false), refl);
      grown = c.replace_part.ensures ranges list a.parts.now d.new.state.count (Count 18446744073709551615) k.parts
          (grown_over ranges list a.parts.now c.push_part-state.new.parts d.new.parts s.count c.push_part-state.result
          d.new.state.count (Count 18446744073709551615 ∷ []) k.parts (c.push_part-state.ensures.grown ranges list) k.grown);
    }
