-- Answers for the decoders of src/fragments.rt.
use Rattle.std.proofs.Common.{◌≡◌, ◌∙◌, ap, length, ℕ, suc, ◌+◌, ◌-◌, ◌*◌, ◌<◌, ◌≤◌, ◌∷◌, List, [], true, sym, refl, subst, arith, inl, inr}
use Rattle.asn1_bits.specs.Bits.{bits}
use Rattle.asn1_schema.specs.Pieces.{Parts, Count}
use Rattle.asn1_schema.specs.Room.{IsGrown}
use Rattle.asn1_schema.specs.Encodings.{Encoding}
use Rattle.asn1_x691.specs.declared.fault.FaultKind.{FaultKind}
use Rattle.asn1_x691.specs.declared.fault.FaultKind.TheVariants.{NotMinimal, Unsupported}
use Rattle.asn1_schema.specs.declared.misfit.MisfitKind.TheVariants as misfit
use Rattle.asn1_schema.specs.declared.part.Part.{Part}
use Rattle.asn1_x691.specs.Limits.{IsEmptyFragment}
use Rattle.asn1_x691_decode.specs.declared.context.Context.{Context}
use Rattle.asn1_x691_fields.specs.declared.state.State.{State}
use Rattle.asn1_x691_fields.specs.Outcomes.{rest, position, fault_of, IsWithin, IsMoved}
use Rattle.asn1_x691_fields.specs.Steps.{within_after, moved_over, moved_on, front_length, fault_at}
use Rattle.asn1_x691_decode.specs.Decoding.{IsDecoded, AreDecoded, items_in, fragment_in, numbered_in, last_items_in, most_item_fragments}
use Rattle.asn1_x691_decode.proofs.Steps.{IsSamePlace, same_rest, same_position, by_true, by_false}
use Rattle.asn1_x691_decode.proofs.ExceptSteps.{front_bits, other_decoded, other_fault}
use Rattle.asn1_x691_decode.proofs.FragmentSteps as steps
use Rattle.asn1_x691_decode.proofs.+decoding.Goals as goal

-- ---- a fragment

-- the bits of the items
module _ (c : Context) (depth node item count : ℕ) (old mid : State) (was is : List Part) (h : IsWithin (bits c.octets.now) old)
    (g : IsMoved (bits c.octets.now) old mid)
    (d : IsDecoded c.tables.ranges.now (items_in c depth item count (position old)).encoding.encodes (bits c.octets.now) old mid was is) where
  size_of_items : length d.starts.front ≡ mid.at - old.at
  size_of_items =
      let list = bits c.octets.now in
      ap length (front_bits list old mid h g (items_in c depth item count (position old)).encoding.encodes d.parts d.starts)
      ∙ front_length list old.at (mid.at - old.at) (omega (arith, g.on, g.ends, g.inside))

pub decode_fragment-returns-then-not-decode_items-clause-did : goal.fragments::decode_fragment-returns-then-not-decode_items-clause-did
decode_fragment-returns-then-not-decode_items-clause-did t c =
    let cx = c.args.context.now in
    let a = c.args in
    let one = c.decode_items in
    let I : ℕ → Encoding FaultKind Parts = λ at. (items_in cx a.depth a.item a.count at).encoding in
    inl (by_false cx I a.state.now one.new.state a.parts.now one.new.parts one.result c.if-not-decode_items.true one.ensures.did)

pub decode_fragment-returns-then-is_empty_fragment-clause-did : goal.fragments::decode_fragment-returns-then-is_empty_fragment-clause-did
decode_fragment-returns-then-is_empty_fragment-clause-did t c =
    let cx = c.args.context.now in
    let list = bits cx.octets.now in
    let a = c.args in
    let one = c.decode_items in
    let new = c.fail.new.state in
    let I : ℕ → Encoding FaultKind Parts = λ at. (items_in cx a.depth a.item a.count at).encoding in
    let d = by_true cx I a.state.now one.new.state a.parts.now one.new.parts one.result c.if-not-decode_items.false one.ensures.did in
    let size = size_of_items cx a.depth a.node a.item a.count a.state.now one.new.state a.parts.now one.new.parts c.requires.within
    one.ensures.moved d in
    let empty = (c.is_empty_fragment.ensures d.starts.front size).0 c.if-is_empty_fragment.true in
    let none : length d.starts.front ≡ 0 = ap length empty.1 in
    let back : one.new.state.at ≡ a.state.now.at = omega (arith, none, size, one.ensures.moved.on) in
    other_fault cx (λ l. IsEmptyFragment true a.count l) Unsupported misfit.Unsupported a.node (items_in cx a.depth a.item a.count (position a.state.now))
    a.state.now one.new.state new a.parts.now one.new.parts d empty
    (fault_at list a.state.now new a.node Unsupported c.requires.within.inside (c.fail.ensures.at ∙ back)
    (c.fail.ensures.end ∙ one.ensures.moved.same_end) c.fail.ensures.node c.fail.ensures.kind)

pub decode_fragment-returns-clause-did : goal.fragments::decode_fragment-returns-clause-did
decode_fragment-returns-clause-did t c =
    let cx = c.args.context.now in
    let a = c.args in
    let one = c.decode_items in
    let I : ℕ → Encoding FaultKind Parts = λ at. (items_in cx a.depth a.item a.count at).encoding in
    let d = by_true cx I a.state.now one.new.state a.parts.now one.new.parts one.result c.if-not-decode_items.false one.ensures.did in
    let size = size_of_items cx a.depth a.node a.item a.count a.state.now one.new.state a.parts.now one.new.parts c.requires.within
    one.ensures.moved d in
    other_decoded cx (λ l. IsEmptyFragment true a.count l) Unsupported misfit.Unsupported a.node (items_in cx a.depth a.item a.count (position a.state.now))
    a.state.now one.new.state a.parts.now one.new.parts d
    (λ p. let yes_it_is = (c.is_empty_fragment.ensures d.starts.front size).1 p in let it_is_not = c.if-is_empty_fragment.false in cc)

-- ---- the last items

pub decode_last_items-returns-then-count-ge16384-clause-did : goal.fragments::decode_last_items-returns-then-count-ge16384-clause-did
decode_last_items-returns-then-count-ge16384-clause-did t c =
    let cx = c.args.context.now in
    let list = bits cx.octets.now in
    let a = c.args in
    let mid = c.next_number_of_units.new.state in
    (steps.number_step cx a.depth a.node a.item (steps.AfterLast cx a.depth a.node a.item a.kind) c.in-Some.count a.state.now mid a.parts.now
    c.requires.within c.in-Some.ensures.onward c.in-Some.ensures.read).fault (fault_of c.fail.new.state)
    (inr (
      c.if-count-ge16384.true,
      fault_at list mid c.fail.new.state a.node a.kind c.in-Some.ensures.onward.inside
          c.fail.ensures.at c.fail.ensures.end c.fail.ensures.node c.fail.ensures.kind,
    ))

pub decode_last_items-returns-then-not-decode_fragment-clause-did : goal.fragments::decode_last_items-returns-then-not-decode_fragment-clause-did
decode_last_items-returns-then-not-decode_fragment-clause-did t c =
    let cx = c.args.context.now in
    let a = c.args in
    let mid = c.next_number_of_units.new.state in
    let n = c.in-Some.count in
    let one = c.decode_fragment in
    let I : ℕ → Encoding FaultKind Parts = λ at. (fragment_in cx a.depth a.node a.item n at).encoding in
    (steps.number_step cx a.depth a.node a.item (steps.AfterLast cx a.depth a.node a.item a.kind) n a.state.now mid a.parts.now
    c.requires.within c.in-Some.ensures.onward c.in-Some.ensures.read).fault (fault_of one.new.state)
    (inl (omega (arith, c.if-count-ge16384.false), inl (by_false cx I mid one.new.state a.parts.now one.new.parts one.result c.if-not-decode_fragment.true one.ensures.did)))

pub decode_last_items-returns-clause-did : goal.fragments::decode_last_items-returns-clause-did
decode_last_items-returns-clause-did t c =
    let cx = c.args.context.now in
    let list = bits cx.octets.now in
    let a = c.args in
    let mid = c.next_number_of_units.new.state in
    let n = c.in-Some.count in
    let one = c.decode_fragment in
    let I : ℕ → Encoding FaultKind Parts = λ at. (fragment_in cx a.depth a.node a.item n at).encoding in
    let h = within_after list a.state.now mid c.requires.within (moved_on list a.state.now mid c.in-Some.ensures.onward) in
    (steps.number_step cx a.depth a.node a.item (steps.AfterLast cx a.depth a.node a.item a.kind) n a.state.now mid a.parts.now
    c.requires.within c.in-Some.ensures.onward c.in-Some.ensures.read).done n n one.new.state one.new.parts (omega arith)
    (steps.last_after cx a.depth a.node a.item n mid one.new.state a.parts.now one.new.parts h one.ensures.moved
    (by_true cx I mid one.new.state a.parts.now one.new.parts one.result c.if-not-decode_fragment.false one.ensures.did) a.kind
    (omega (arith, c.if-count-ge16384.false)))

-- ---- all items

-- how many more fragments there may be
left_of : (whole : ℕ) → whole < 4294967296 → most_item_fragments - whole ≡ suc (most_item_fragments - (whole + 1))
unfolding most_item_fragments
left_of whole h = omega (arith, h)

none_left : (whole : ℕ) → 4294967296 ≤ whole → most_item_fragments - whole ≡ 0
unfolding most_item_fragments
none_left whole h = omega (arith, h)

pub decode_numbered_items-returns-in_default-clause-did : goal.fragments::decode_numbered_items-returns-in_default-clause-did
decode_numbered_items-returns-in_default-clause-did t c =
    let cx = c.args.context.now in
    let list = bits cx.octets.now in
    let a = c.args in
    let l = c.loop-whole in
    let new = c.next_number_of_units.new.state in
    l.invariant.3.fault (fault_of new)
    (steps.all_fault cx a.depth a.node a.item (most_item_fragments - l.whole) (most_item_fragments - (l.whole + 1)) (position l.state)
    (rest list l.state) (fault_of new) (left_of l.whole c.loop-whole-test.true) c.in_default.ensures.read)

pub decode_numbered_items-returns-then-not-decode_fragment-clause-did : goal.fragments::decode_numbered_items-returns-then-not-decode_fragment-clause-did
decode_numbered_items-returns-then-not-decode_fragment-clause-did t c =
    let cx = c.args.context.now in
    let list = bits cx.octets.now in
    let a = c.args in
    let l = c.loop-whole in
    let mid = c.next_number_of_units.new.state in
    let n = c.in-Some.count in
    let one = c.decode_fragment in
    let more = most_item_fragments - (l.whole + 1) in
    let I : ℕ → Encoding FaultKind Parts = λ at. (fragment_in cx a.depth a.node a.item n at).encoding in
    l.invariant.3.fault (fault_of one.new.state)
    ((steps.all_step cx a.depth a.node a.item (most_item_fragments - l.whole) more n l.state mid l.parts (left_of l.whole c.loop-whole-test.true)
    l.invariant.0 c.in-Some.ensures.onward c.in-Some.ensures.read).fault (fault_of one.new.state)
    (steps.items_fault cx a.depth a.node a.item more n (position mid) (rest list mid) (fault_of one.new.state)
    (by_false cx I mid one.new.state l.parts one.new.parts one.result c.if-not-decode_fragment.true one.ensures.did)))

pub decode_numbered_items-returns-then-count-lt16384-clause-did : goal.fragments::decode_numbered_items-returns-then-count-lt16384-clause-did
decode_numbered_items-returns-then-count-lt16384-clause-did t c =
    let cx = c.args.context.now in
    let list = bits cx.octets.now in
    let a = c.args in
    let l = c.loop-whole in
    let mid = c.next_number_of_units.new.state in
    let n = c.in-Some.count in
    let one = c.decode_fragment in
    let more = most_item_fragments - (l.whole + 1) in
    let I : ℕ → Encoding FaultKind Parts = λ at. (fragment_in cx a.depth a.node a.item n at).encoding in
    let h = within_after list l.state mid l.invariant.0 (moved_on list l.state mid c.in-Some.ensures.onward) in
    l.invariant.3.done n (65536 * l.whole + n) one.new.state one.new.parts refl
    ((steps.all_step cx a.depth a.node a.item (most_item_fragments - l.whole) more n l.state mid l.parts (left_of l.whole c.loop-whole-test.true)
    l.invariant.0 c.in-Some.ensures.onward c.in-Some.ensures.read).done n n one.new.state one.new.parts (omega arith)
    (steps.few_after cx a.depth a.node a.item n mid one.new.state l.parts one.new.parts h one.ensures.moved
    (by_true cx I mid one.new.state l.parts one.new.parts one.result c.if-not-decode_fragment.false one.ensures.did) more c.if-count-lt16384.true))

pub decode_numbered_items-returns-in_default-decode_last_items-clause-did : goal.fragments::decode_numbered_items-returns-in_default-decode_last_items-clause-did
decode_numbered_items-returns-in_default-decode_last_items-clause-did t c =
    let cx = c.args.context.now in
    let list = bits cx.octets.now in
    let a = c.args in
    let l = c.loop-whole in
    let mid = c.next_number_of_units.new.state in
    let n = c.in-Some.count in
    let one = c.decode_fragment in
    let last = c.decode_last_items in
    let more = most_item_fragments - (l.whole + 1) in
    let I : ℕ → Encoding FaultKind Parts = λ at. (fragment_in cx a.depth a.node a.item n at).encoding in
    let h = within_after list l.state mid l.invariant.0 (moved_on list l.state mid c.in-Some.ensures.onward) in
    l.invariant.3.fault (fault_of last.new.state)
    ((steps.all_step cx a.depth a.node a.item (most_item_fragments - l.whole) more n l.state mid l.parts (left_of l.whole c.loop-whole-test.true)
    l.invariant.0 c.in-Some.ensures.onward c.in-Some.ensures.read).fault (fault_of last.new.state)
    ((steps.middle_step cx a.depth a.node a.item n mid one.new.state l.parts one.new.parts h one.ensures.moved
    (by_true cx I mid one.new.state l.parts one.new.parts one.result c.if-not-decode_fragment.false one.ensures.did) more
    (omega (arith, c.if-count-lt16384.false)) c.if-count-lt65536.true).fault (fault_of last.new.state) c.in_default-decode_last_items.ensures.did))

pub decode_numbered_items-returns-then-count-lt65536-clause-did : goal.fragments::decode_numbered_items-returns-then-count-lt65536-clause-did
decode_numbered_items-returns-then-count-lt65536-clause-did t c =
    let cx = c.args.context.now in
    let list = bits cx.octets.now in
    let a = c.args in
    let l = c.loop-whole in
    let mid = c.next_number_of_units.new.state in
    let n = c.in-Some.count in
    let one = c.decode_fragment in
    let last = c.decode_last_items in
    let m = c.in-Some-decode_last_items.last in
    let more = most_item_fragments - (l.whole + 1) in
    let I : ℕ → Encoding FaultKind Parts = λ at. (fragment_in cx a.depth a.node a.item n at).encoding in
    let h = within_after list l.state mid l.invariant.0 (moved_on list l.state mid c.in-Some.ensures.onward) in
    l.invariant.3.done (n + m) (65536 * l.whole + n + m) last.new.state last.new.parts (omega arith)
    ((steps.all_step cx a.depth a.node a.item (most_item_fragments - l.whole) more n l.state mid l.parts (left_of l.whole c.loop-whole-test.true)
    l.invariant.0 c.in-Some.ensures.onward c.in-Some.ensures.read).done (n + m) (n + m) last.new.state last.new.parts (omega arith)
    ((steps.middle_step cx a.depth a.node a.item n mid one.new.state l.parts one.new.parts h one.ensures.moved
    (by_true cx I mid one.new.state l.parts one.new.parts one.result c.if-not-decode_fragment.false one.ensures.did) more
    (omega (arith, c.if-count-lt16384.false)) c.if-count-lt65536.true).done m (n + m) last.new.state last.new.parts refl
    c.in-Some-decode_last_items.ensures.did))

pub decode_numbered_items-loop-whole-preserved : goal.fragments::decode_numbered_items-loop-whole-preserved
decode_numbered_items-loop-whole-preserved t c =
    let cx = c.args.context.now in
    let list = bits cx.octets.now in
    let a = c.args in
    let l = c.loop-whole in
    let mid = c.next_number_of_units.new.state in
    let n = c.in-Some.count in
    let one = c.decode_fragment in
    let more = most_item_fragments - (l.whole + 1) in
    let I : ℕ → Encoding FaultKind Parts = λ at. (fragment_in cx a.depth a.node a.item n at).encoding in
    let on = moved_on list l.state mid c.in-Some.ensures.onward in
    let h = within_after list l.state mid l.invariant.0 on in
    let is : n ≡ 65536 = omega (arith, c.in-Some.ensures.most, c.if-count-lt65536.false) in
    let W = numbered_in cx a.depth a.node a.item most_item_fragments in
    let A = numbered_in cx a.depth a.node a.item (most_item_fragments - l.whole) in
    let B = numbered_in cx a.depth a.node a.item more in
    let C = steps.After cx a.depth a.node a.item more n in (
      within_after list mid one.new.state h one.ensures.moved,
      moved_over list a.state.now mid one.new.state (moved_over list a.state.now l.state mid l.invariant.1 on) one.ensures.moved,
      omega (arith, c.loop-whole-test.true),
      steps.over cx W A B a.state.now l.state one.new.state a.parts.now l.parts one.new.parts (65536 * l.whole) n (65536 * (l.whole + 1))
          (omega (arith, is)) l.invariant.3
          (steps.over cx A C B l.state mid one.new.state l.parts l.parts one.new.parts 0 n n (omega arith)
          (steps.all_step cx a.depth a.node a.item (most_item_fragments - l.whole) more n l.state mid l.parts
          (left_of l.whole c.loop-whole-test.true) l.invariant.0 c.in-Some.ensures.onward c.in-Some.ensures.read)
          (steps.whole_step cx a.depth a.node a.item n mid one.new.state l.parts one.new.parts h one.ensures.moved
          (by_true cx I mid one.new.state l.parts one.new.parts one.result c.if-not-decode_fragment.false one.ensures.did) more
          (omega (arith, c.if-count-lt65536.false)))),
    )

pub decode_numbered_items-returns-in_default-decode_last_items-2-clause-did : goal.fragments::decode_numbered_items-returns-in_default-decode_last_items-2-clause-did
decode_numbered_items-returns-in_default-decode_last_items-2-clause-did t c =
    let cx = c.args.context.now in
    let a = c.args in
    let l = c.loop-whole in
    let last = c.decode_last_items-2 in
    (steps.all_last cx a.depth a.node a.item (numbered_in cx a.depth a.node a.item most_item_fragments) (most_item_fragments - l.whole)
    a.state.now l.state a.parts.now l.parts (65536 * l.whole) (none_left l.whole (omega (arith, c.loop-whole-test.false))) l.invariant.3).fault
    (fault_of last.new.state) c.in_default-decode_last_items-2.ensures.did

pub decode_numbered_items-returns-clause-did : goal.fragments::decode_numbered_items-returns-clause-did
decode_numbered_items-returns-clause-did t c =
    let cx = c.args.context.now in
    let a = c.args in
    let l = c.loop-whole in
    let last = c.decode_last_items-2 in
    let m = c.in-Some-decode_last_items-2.last in
    (steps.all_last cx a.depth a.node a.item (numbered_in cx a.depth a.node a.item most_item_fragments) (most_item_fragments - l.whole)
    a.state.now l.state a.parts.now l.parts (65536 * l.whole) (none_left l.whole (omega (arith, c.loop-whole-test.false))) l.invariant.3).done
    m (65536 * l.whole + m) last.new.state last.new.parts refl c.in-Some-decode_last_items-2.ensures.did

-- ---- a list

pub decode_numbered_list-returns-clause-did : goal.fragments::decode_numbered_list-returns-clause-did
decode_numbered_list-returns-clause-did t c =
    let cx = c.args.context.now in
    let list = bits cx.octets.now in
    let a = c.args in
    let mid = c.push.new in
    let now = c.decode_numbered_items.new in
    let n = c.in-Some.count in
    let P = numbered_in cx a.depth a.node a.item most_item_fragments in
    let rs = cx.tables.ranges.now in
    let same : IsSamePlace a.state.now mid.state = record { at = c.push.ensures.at; first = c.push.ensures.first; end = c.push.ensures.end } in
    let d : AreDecoded rs (P (position a.state.now)).encodes list mid.state now.state mid.parts now.parts n =
    subst (λ (i : ℕ). AreDecoded rs (P i).encodes list mid.state now.state mid.parts now.parts n) (same_position a.state.now mid.state same)
    c.in-Some.ensures.did in
    steps.listed cx (P (position a.state.now)).encodes a.state.now mid.state now.state a.parts.now mid.parts now.parts c.replace_part.new.parts n
    (Count 18446744073709551615) (same_rest list a.state.now mid.state same) (c.push.ensures.grown rs list) d
    (λ more g. c.replace_part.ensures rs list a.parts.now now.state.count (Count 18446744073709551615) more g)
