-- Answers for the encoders of src/list.rt.
use Rattle.std.proofs.Common.{rules, ◌+◌, ◌-◌, ◌∷◌, Bool, length, refl, sym, ap, ◌∙◌, subst, arith}
use Rattle.std.specs.Prelude.{not}
use Rattle.std.proofs.lemmas.Option.{slice_get_within}
use Rattle.asn1_schema.specs.declared.misfit.MisfitKind.TheVariants.{NoPart, OtherPart, NoEncoding}
use Rattle.asn1_schema.specs.declared.part.Part.{Part}
use Rattle.asn1_schema.specs.Pieces.{Parts, Count}
use Rattle.asn1_x690.specs.Leaves.{HasSize}
use Rattle.asn1_x690.specs.declared.fault.FaultKind.TheVariants.{NotPermitted}
use Rattle.asn1_x690.specs.TypeContents.{told}
use Rattle.asn1_x691_writers.specs.Put.{piece_in}
use Rattle.asn1_x690_encode.specs.Encoding.{tape, types, items_in, element_in, FillsItems, ItemsMisfit, Outcome}
use Rattle.asn1_x690_encode.specs.ListSteps.{items_none, items_more, items_stopped, items_done, element_takes, counted, not_permitted, no_count, none_stopped, some_filled}
use Rattle.asn1_x690_encode.specs.Steps.{on_octet, part_next, part_none, stopped_here}
use Rattle.asn1_x690_encode.proofs.+encoding.Goals as goal

pub encode_list-returns-in-None : goal.list::encode_list-returns-in-None
encode_list-returns-in-None t c =
    let a = c.args in
    let cx = a.context.now in
    let T = told Count (HasSize a.is_extensible a.size) NotPermitted a.node (items_in cx a.depth a.node a.is_set a.item) in
    let l = c.reject in
    stopped_here cx T.misfit a.octets.now a.octets.now a.state.now l.new.state l.result a.node NoPart T.contents.fills l.ensures.result l.ensures.next
    l.ensures.node l.ensures.reason
    (subst (λ (k : Parts). T.misfit k (record { node = a.node; left = length k; kind = NoPart }))
    (sym (part_none cx a.state.now.next (sym c.in-None.ensures))) refl)

pub encode_list-returns-in-None-count_of : goal.list::encode_list-returns-in-None-count_of
encode_list-returns-in-None-count_of t c =
    let a = c.args in
    let cx = a.context.now in
    let F = items_in cx a.depth a.node a.is_set a.item in
    let T = told Count (HasSize a.is_extensible a.size) NotPermitted a.node F in
    let l = c.reject-in-None-count_of in
    let p = piece_in cx.tables.ranges.now cx.source.now c.in-Some.part.now in
    let e = part_next cx a.state.now.next c.in-Some.part.now (sym c.in-Some.ensures) in
    stopped_here cx T.misfit a.octets.now a.octets.now a.state.now l.new.state l.result a.node OtherPart T.contents.fills l.ensures.result l.ensures.next
    l.ensures.node l.ensures.reason
    (subst (λ (k : Parts). T.misfit k (record { node = a.node; left = length k; kind = OtherPart })) (sym e)
    (no_count cx (HasSize a.is_extensible a.size) a.node F 0 a.octets.now a.state.now a.octets.now l.new.state p (tape cx (a.state.now.next + 1))
    (c.in-None-count_of.ensures cx.tables.ranges.now cx.source.now)))

pub encode_list-returns-then-not-has_size : goal.list::encode_list-returns-then-not-has_size
encode_list-returns-then-not-has_size t c =
    let a = c.args in
    let cx = a.context.now in
    let F = items_in cx a.depth a.node a.is_set a.item in
    let T = told Count (HasSize a.is_extensible a.size) NotPermitted a.node F in
    let l = c.reject-then-not-has_size in
    let n = c.in-Some-count_of.count in
    let e = part_next cx a.state.now.next c.in-Some.part.now (sym c.in-Some.ensures)
    ∙ ap (λ (p : Part). piece_in cx.tables.ranges.now cx.source.now p ∷ tape cx (a.state.now.next + 1)) c.in-Some-count_of.ensures in
    stopped_here cx T.misfit a.octets.now a.octets.now a.state.now l.new.state l.result a.node NoEncoding T.contents.fills l.ensures.result l.ensures.next
    l.ensures.node l.ensures.reason
    (subst (λ (k : Parts). T.misfit k (record { node = a.node; left = length k; kind = NoEncoding })) (sym e)
    (not_permitted cx (HasSize a.is_extensible a.size) a.node F n a.octets.now a.state.now a.octets.now l.new.state (tape cx (a.state.now.next + 1))
    (c.has_size.ensures.no c.if-not-has_size.true)))

pub encode_list-overflow_add-state : goal.list::encode_list-overflow_add-state
encode_list-overflow_add-state t c =
    let w = slice_get_within c.args.context.now.parts.now c.args.state.now.next c.in-Some.part.now (sym c.in-Some.ensures) in
    omega (arith, w, c.requires.parts)

pub encode_list-returns-else-not-has_size : goal.list::encode_list-returns-else-not-has_size
encode_list-returns-else-not-has_size t c =
    let a = c.args in
    let cx = a.context.now in
    let old = a.state.now in
    let k = c.encode_items_by in
    let F = items_in cx a.depth a.node a.is_set a.item in
    let e = part_next cx old.next c.in-Some.part.now (sym c.in-Some.ensures)
    ∙ ap (λ (p : Part). piece_in cx.tables.ranges.now cx.source.now p ∷ tape cx (old.next + 1)) c.in-Some-count_of.ensures in
    counted cx (HasSize a.is_extensible a.size) a.node F c.in-Some-count_of.count a.octets.now old k.new.octets k.new.state
    (record old { next = old.next + 1 }) k.result e refl (c.has_size.ensures.yes c.if-not-has_size.false) k.ensures

pub encode_items-loop-left-init : goal.list::encode_items-loop-left-init
encode_items-loop-left-init t c =
    let a = c.args in
    items_none (λ before. element_in a.context.now a.depth a.item) a.context.now a.count a.octets.now a.state.now

pub encode_items-loop-left-preserved : goal.list::encode_items-loop-left-preserved
encode_items-loop-left-preserved t c =
    let a = c.args in
    let cx = a.context.now in
    let l = c.loop-left in
    let k = c.encode_node in
    items_more (λ before. element_in cx a.depth a.item) cx a.count a.octets.now a.state.now l.left (l.left - 1) l.octets l.state l.invariant
    (omega (arith, c.loop-left-test.true)) k.new.octets k.new.state
    (some_filled cx a.item (types cx a.depth a.item) l.octets l.state k.new.octets k.new.state k.result (c.is_none.ensures ∙ ap not c.if-is_none.false) k.ensures)

pub encode_items-encode_node-requires : goal.list::encode_items-encode_node-requires
encode_items-encode_node-requires t c =
    let a = c.args in
    let l = c.loop-left in (
      search rules,
      (
        omega (arith, l.auto.octets, c.requires.size),
        (
          c.requires.source,
          (
            c.requires.parts,
            on_octet a.octets.now l.octets a.state.now.at l.state.at l.invariant.list l.invariant.grown l.invariant.whole c.requires.whole,
          ),
        ),
      ),
    )

pub encode_items-returns-then-is_none : goal.list::encode_items-returns-then-is_none
encode_items-returns-then-is_none t c =
    let a = c.args in
    let cx = a.context.now in
    let l = c.loop-left in
    let k = c.encode_node in
    items_stopped (λ before. element_in cx a.depth a.item) cx a.count a.octets.now a.state.now l.left (l.left - 1) l.octets l.state l.invariant
    (omega (arith, c.loop-left-test.true)) k.new.state
    (none_stopped cx a.item (types cx a.depth a.item) l.octets l.state k.new.octets k.new.state k.result (c.is_none.ensures ∙ ap not c.if-is_none.true) k.ensures)

pub encode_items-returns : goal.list::encode_items-returns
encode_items-returns t c =
    let a = c.args in
    let cx = a.context.now in
    let l = c.loop-left in
    items_done (λ before. element_in cx a.depth a.item) cx a.count a.octets.now a.state.now a.node l.left
    (λ before. element_takes cx a.depth a.item) l.octets l.state l.invariant (omega (arith, c.loop-left-test.false))

pub encode_items_by-returns-then-is_set : goal.list::encode_items_by-returns-then-is_set
encode_items_by-returns-then-is_set t c =
    let a = c.args in
    let cx = a.context.now in
    let k = c.encode_set_items in
    subst
    (λ (b : Bool). Outcome cx (FillsItems cx a.depth a.node b a.item a.count) (ItemsMisfit cx a.depth a.node b a.item a.count) a.octets.now
    a.state.now k.new.octets k.new.state k.result) (sym c.if-is_set.true) k.ensures

pub encode_items_by-returns : goal.list::encode_items_by-returns
encode_items_by-returns t c =
    let a = c.args in
    let cx = a.context.now in
    let k = c.encode_items in
    subst
    (λ (b : Bool). Outcome cx (FillsItems cx a.depth a.node b a.item a.count) (ItemsMisfit cx a.depth a.node b a.item a.count) a.octets.now
    a.state.now k.new.octets k.new.state k.result) (sym c.if-is_set.false) k.ensures
