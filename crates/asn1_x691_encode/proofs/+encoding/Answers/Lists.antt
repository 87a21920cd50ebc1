-- Answers for the encoders of src/list.rt.
use Rattle.std.proofs.Common.{◌≡◌, ℕ, ◌+◌, ◌-◌, ◌<◌, ◌≤◌, ◌∷◌, Bool, true, false, refl, sym, ◌∙◌, ap, subst, inl, inr, arith}
use Rattle.asn1_x691_encode.specs.Encoding.{Outcome, tape, types, items_in, list_in, added_list_in, list_by}
use Rattle.std.proofs.lemmas.Option.{slice_get_within}
use Rattle.asn1_schema.specs.declared.misfit.MisfitKind.TheVariants.{OtherPart, NoEncoding}
use Rattle.asn1_schema.specs.declared.part.Part.TheVariants as item
use Rattle.asn1_schema.specs.declared.tables.Length.{Length}
use Rattle.asn1_schema.specs.declared.tables.Length.TheVariants.{AtLeast, Between}
use Rattle.asn1_schema.specs.Encodings.{CanEncode}
use Rattle.asn1_schema.specs.Laws.PermittedLaws.{permitted_is, permitted_of}
use Rattle.asn1_schema.specs.Pieces.{Count}
use Rattle.asn1_schema.specs.TypeEncodings.{TypeEncoding, several}
use Rattle.asn1_x691.specs.declared.fault.FaultKind.{FaultKind}
use Rattle.asn1_x691.specs.declared.fault.FaultKind.TheVariants.{BelowLeast, InRoot}
use Rattle.asn1_x691.specs.Fields.{constrained, length_of}
use Rattle.asn1_x691.specs.Fragments.{most_fragments}
use Rattle.asn1_x691.specs.Lists.{IsCountable}
use Rattle.asn1_x691_encode.specs.FragmentSteps.{list_done}
use Rattle.asn1_x691.specs.Types.{count_from, length_at_least, IsAddedCount, added_length}
use Rattle.asn1_x691.specs.Laws.RangeLaws.{constrained_within}
use Rattle.asn1_x691_writers.specs.FarSteps.{length_few}
use Rattle.asn1_x691_writers.specs.FieldSteps.{permitted_written}
use Rattle.asn1_x691_writers.specs.Put.{piece_in}
use Rattle.asn1_x691_writers.specs.PutSteps.{rejected}
use Rattle.asn1_x691_encode.specs.LeafSteps.{after_put, part_next}
use Rattle.asn1_x691.specs.Strings.{IsOfRoot, IsAddedSize}
use Rattle.asn1_schema.specs.declared.part.Part.{Part}
use Rattle.asn1_x691_encode.specs.ExtensionSteps.{root_step, added_step}
use Rattle.asn1_x691_encode.specs.ListSteps.{list_other, item_step, item_fails, items_done, part_step}
use Rattle.asn1_x691_encode.proofs.+encoding.Goals as goal
use Rattle.asn1_x691_encode.proofs.+encoding.Goals.{list::encode_set_at_least-then-count-least-via-then-count-least, list::encode_set_at_least-then-count-least-via-else-count-least+then-count-ge16384}

pub encode_at_least-returns-then-count-least : goal.list::encode_at_least-returns-then-count-least
encode_at_least-returns-then-count-least t c =
    let cx = c.args.context.now in
    let node = c.args.node in
    let n = c.args.count in
    let least = c.args.least in
    let s = c.reject.new.state in
    let T = list_in cx c.args.depth node false (AtLeast least) c.args.item in
    let none : IsCountable most_fragments (λ k. least ≤ k) n → ⊥ = λ p. let low = p.0 in omega (arith, low, c.if-count-least.true) in
    after_put cx T (item.Count n) c.args.octets.now c.args.octets.now c.args.state.now s s c.requires.next refl refl refl c.reject.result
    c.reject.result refl
    (rejected cx.is_aligned T (Count n) c.args.octets.now c.args.state.now s c.reject.result node NoEncoding c.reject.ensures.result
    c.reject.ensures.at c.reject.ensures.next c.reject.ensures.node c.reject.ensures.reason
    (λ at rest. inl (n, refl, inr (none, refl))))
    (λ q. absurd (let e : true ≡ false = sym q ∙ c.reject.ensures.result in cc)) (λ q. refl)

pub encode_at_least-overflow_add-state : goal.list::encode_at_least-overflow_add-state
encode_at_least-overflow_add-state t c =
    let within = slice_get_within c.args.context.now.parts.now c.args.state.now.next (item.Count c.args.count) c.requires.next in
    omega (arith, within, c.requires.parts)

pub encode_at_least-returns : goal.list::encode_at_least-returns
encode_at_least-returns t c =
    let cx = c.args.context.now in
    let a = c.args in
    let n = a.count in
    let least = a.least in
    let old = a.state.now in
    let mid = record old { next = old.next + 1 } in
    let last = c.encode_numbered_items in
    list_done cx a.depth a.node a.item (λ k. least ≤ k) (λ k. k < least) BelowLeast n a.octets.now old mid refl
    (omega (arith, c.if-count-least.false)) c.ranges.count.fits (part_next cx old.next (item.Count n) c.requires.next) last.new.octets last.new.state
    last.result last.ensures

pub encode_set_at_least-returns-then-count-least : goal.list::encode_set_at_least-returns-then-count-least
encode_set_at_least-returns-then-count-least t c =
    let cx = c.args.context.now in
    let node = c.args.node in
    let n = c.args.count in
    let least = c.args.least in
    let s = c.reject.new.state in
    let none : (at : ℕ) → CanEncode (length_at_least cx.is_aligned least node at).encodes n → ⊥ = elim c.then-count-least.branch [
      | list::encode_set_at_least-then-count-least-via-then-count-least w ↦
          λ at p.
          let h = permitted_is (λ k. least ≤ k) (λ k. k < least) BelowLeast node (length_of cx.is_aligned node) at n p.list p.encoded in
          omega (arith, h, w.if-count-least)
      | list::encode_set_at_least-then-count-least-via-else-count-least+then-count-ge16384 w ↦
          λ at p.
          let q = permitted_of (λ k. least ≤ k) (λ k. k < least) BelowLeast node (length_of cx.is_aligned node) at n p.list p.encoded in
          let few = length_few cx.is_aligned node at n q.0 q.1 in
          omega (arith, few, w.if-count-ge16384)
    ] in
    let T = list_in cx c.args.depth node true (AtLeast least) c.args.item in
    after_put cx T (item.Count n) c.args.octets.now c.args.octets.now c.args.state.now s s c.requires.next refl refl refl c.reject.result
    c.reject.result refl
    (rejected cx.is_aligned T (Count n) c.args.octets.now c.args.state.now s c.reject.result node NoEncoding c.reject.ensures.result
    c.reject.ensures.at c.reject.ensures.next c.reject.ensures.node c.reject.ensures.reason
    (λ at rest. inl (n, refl, inl (none at, refl))))
    (λ q. absurd (let e : true ≡ false = sym q ∙ c.reject.ensures.result in cc)) (λ q. refl)

pub encode_set_at_least-overflow_add-state : goal.list::encode_set_at_least-overflow_add-state
encode_set_at_least-overflow_add-state t c =
    let within = slice_get_within c.args.context.now.parts.now c.args.state.now.next (item.Count c.args.count) c.requires.next in
    omega (arith, within, c.requires.parts)

pub encode_set_at_least-returns : goal.list::encode_set_at_least-returns
encode_set_at_least-returns t c =
    let cx = c.args.context.now in
    let node = c.args.node in
    let n = c.args.count in
    let least = c.args.least in
    let old = c.args.state.now in
    let mid = record old { at = c.put_length-state.result; next = old.next + 1 } in
    (part_step cx (length_at_least cx.is_aligned least node) Count (λ k. items_in cx c.args.depth node true c.args.item k) node n
    c.args.octets.now c.put_length-state.new.octets old mid
    (permitted_written cx.is_aligned (λ k. least ≤ k) (λ k. k < least) BelowLeast node (length_of cx.is_aligned node) n c.args.octets.now
    c.put_length-state.new.octets old.at c.put_length-state.result c.if-count-least.false (c.put_length-state.ensures node))
    (part_next cx old.next (item.Count n) c.requires.next)).onward c.encode_items_by.new.octets c.encode_items_by.new.state c.encode_items_by.result
    (c.encode_items_by.ensures)

pub encode_between-returns-then-count-least : goal.list::encode_between-returns-then-count-least
encode_between-returns-then-count-least t c =
    let cx = c.args.context.now in
    let node = c.args.node in
    let n = c.args.count in
    let s = c.reject.new.state in
    let T = list_in cx c.args.depth node c.args.is_set (Between c.args.least c.args.range) c.args.item in
    let other : (d : ℕ) → Count n ≡ count_from c.args.least d → ⊥ =
    λ d e. let f : n ≡ c.args.least + d = cc in omega (arith, f, c.if-count-least.true) in
    after_put cx T (item.Count n) c.args.octets.now c.args.octets.now c.args.state.now s s c.requires.next refl refl refl c.reject.result
    c.reject.result refl
    (rejected cx.is_aligned T (Count n) c.args.octets.now c.args.state.now s c.reject.result node OtherPart c.reject.ensures.result
    c.reject.ensures.at c.reject.ensures.next c.reject.ensures.node c.reject.ensures.reason
    (λ at rest. inr (other, refl)))
    (λ q. absurd (let e : true ≡ false = sym q ∙ c.reject.ensures.result in cc)) (λ q. refl)

pub encode_between-returns-then-count-least-2 : goal.list::encode_between-returns-then-count-least-2
encode_between-returns-then-count-least-2 t c =
    let cx = c.args.context.now in
    let node = c.args.node in
    let n = c.args.count in
    let k = c.reject-then-count-least-2 in
    let s = k.new.state in
    let d = n - c.args.least in
    let is : Count n ≡ count_from c.args.least (n - c.args.least) = ap Count (omega (arith, c.if-count-least.false)) in
    let T = list_in cx c.args.depth node c.args.is_set (Between c.args.least c.args.range) c.args.item in
    let none : (at : ℕ) → CanEncode (constrained cx.is_aligned c.args.range node at).encodes (n - c.args.least) → ⊥ =
    λ at p. let few = constrained_within cx.is_aligned c.args.range node at (n - c.args.least) p.list p.encoded in omega (arith, few, c.if-count-least-2.true) in
    after_put cx T (item.Count n) c.args.octets.now c.args.octets.now c.args.state.now s s c.requires.next refl refl refl k.result
    k.result refl
    (rejected cx.is_aligned T (Count n) c.args.octets.now c.args.state.now s k.result node NoEncoding k.ensures.result
    k.ensures.at k.ensures.next k.ensures.node k.ensures.reason
    (λ at rest. inl (d, is, inl (none at, refl))))
    (λ q. absurd (let e : true ≡ false = sym q ∙ k.ensures.result in cc)) (λ q. refl)

pub encode_between-overflow_add-state : goal.list::encode_between-overflow_add-state
encode_between-overflow_add-state t c =
    let within = slice_get_within c.args.context.now.parts.now c.args.state.now.next (item.Count c.args.count) c.requires.next in
    omega (arith, within, c.requires.parts)

pub encode_between-returns : goal.list::encode_between-returns
encode_between-returns t c =
    let cx = c.args.context.now in
    let node = c.args.node in
    let n = c.args.count in
    let least = c.args.least in
    let old = c.args.state.now in
    let mid = record old { at = c.put_constrained-state.result; next = old.next + 1 } in
    let e : n ≡ least + (n - least) = omega (arith, c.if-count-least.false) in
    let E : ℕ → ℕ → TypeEncoding FaultKind = λ k. items_in cx c.args.depth node c.args.is_set c.args.item k in
    (part_step cx (constrained cx.is_aligned c.args.range node) (count_from least) (λ d. E (least + d)) node (n - least)
    c.args.octets.now c.put_constrained-state.new.octets old mid (c.put_constrained-state.ensures node)
    (part_next cx old.next (item.Count n) c.requires.next ∙ ap (λ (k : ℕ). Count k ∷ tape cx (old.next + 1)) e)).onward c.encode_items_by.new.octets
    c.encode_items_by.new.state c.encode_items_by.result
    (subst
    (λ (k : ℕ). Outcome cx (E k) c.put_constrained-state.new.octets mid c.encode_items_by.new.octets c.encode_items_by.new.state
    c.encode_items_by.result) e (c.encode_items_by.ensures))

pub encode_items_by-returns-then-is_set : goal.list::encode_items_by-returns-then-is_set
encode_items_by-returns-then-is_set t c =
    let a = c.args in
    let k = c.encode_set_items in
    subst
    (λ (b : Bool). Outcome a.context.now (items_in a.context.now a.depth a.node b a.item a.count) a.octets.now a.state.now k.new.octets k.new.state
    k.result) (sym c.if-is_set.true) k.ensures

pub encode_items_by-returns : goal.list::encode_items_by-returns
encode_items_by-returns t c =
    let a = c.args in
    let k = c.encode_items in
    subst
    (λ (b : Bool). Outcome a.context.now (items_in a.context.now a.depth a.node b a.item a.count) a.octets.now a.state.now k.new.octets k.new.state
    k.result) (sym c.if-is_set.false) k.ensures

pub encode_list_by-returns-then-is_extensible : goal.list::encode_list_by-returns-then-is_extensible
encode_list_by-returns-then-is_extensible t c =
    let a = c.args in
    let k = c.encode_extensible_list in
    subst
    (λ (b : Bool). Outcome a.context.now (list_by a.context.now a.depth a.node b a.is_set a.size.now a.item) a.octets.now a.state.now k.new.octets
    k.new.state k.result) (sym c.if-is_extensible.true) k.ensures

pub encode_list_by-returns : goal.list::encode_list_by-returns
encode_list_by-returns t c =
    let a = c.args in
    let k = c.encode_list in
    subst
    (λ (b : Bool). Outcome a.context.now (list_by a.context.now a.depth a.node b a.is_set a.size.now a.item) a.octets.now a.state.now k.new.octets
    k.new.state k.result) (sym c.if-is_extensible.false) k.ensures

pub encode_items-returns-then-not-encode_node : goal.list::encode_items-returns-then-not-encode_node
encode_items-returns-then-not-encode_node t c =
    let cx = c.args.context.now in
    let E = types cx c.args.depth c.args.item in
    item_fails cx (several E c.args.count) E c.args.octets.now c.loop-left.octets c.args.state.now c.loop-left.state c.loop-left.left
    c.encode_node.new.octets c.encode_node.new.state c.loop-left-test.true c.loop-left.invariant
    (subst
    (λ (b : Bool). Outcome cx E c.loop-left.octets c.loop-left.state c.encode_node.new.octets c.encode_node.new.state b)
    c.if-not-encode_node.true (c.encode_node.ensures))

pub encode_items-loop-left-preserved : goal.list::encode_items-loop-left-preserved
encode_items-loop-left-preserved t c =
    let cx = c.args.context.now in
    let E = types cx c.args.depth c.args.item in
    item_step cx (several E c.args.count) E c.args.octets.now c.loop-left.octets c.args.state.now c.loop-left.state c.loop-left.left
    c.encode_node.new.octets c.encode_node.new.state c.loop-left-test.true c.loop-left.invariant
    (subst
    (λ (b : Bool). Outcome cx E c.loop-left.octets c.loop-left.state c.encode_node.new.octets c.encode_node.new.state b)
    c.if-not-encode_node.false (c.encode_node.ensures))

pub encode_items-returns : goal.list::encode_items-returns
encode_items-returns t c =
    let cx = c.args.context.now in
    let E = types cx c.args.depth c.args.item in
    items_done cx (several E c.args.count) E c.args.octets.now c.loop-left.octets c.args.state.now c.loop-left.state c.loop-left.left
    (omega (arith, c.loop-left-test.false)) c.loop-left.invariant

pub encode_list_of-returns-then-is_set : goal.list::encode_list_of-returns-then-is_set
encode_list_of-returns-then-is_set t c =
    let cx = c.args.context.now in
    let k = c.encode_set_at_least in
    let S : Length → Bool → Type 0 = λ s b. Outcome cx (list_in cx c.args.depth c.args.node b s c.args.item) c.args.octets.now c.args.state.now
    k.new.octets k.new.state k.result in
    subst (λ (b : Bool). S c.args.size b) (sym c.if-is_set.true) (subst (λ (s : Length). S s true) (sym c.in-AtLeast.is) k.ensures)

pub encode_list_of-returns-else-is_set : goal.list::encode_list_of-returns-else-is_set
encode_list_of-returns-else-is_set t c =
    let cx = c.args.context.now in
    let k = c.encode_at_least in
    let S : Length → Bool → Type 0 = λ s b. Outcome cx (list_in cx c.args.depth c.args.node b s c.args.item) c.args.octets.now c.args.state.now
    k.new.octets k.new.state k.result in
    subst (λ (b : Bool). S c.args.size b) (sym c.if-is_set.false) (subst (λ (s : Length). S s false) (sym c.in-AtLeast.is) k.ensures)

pub encode_list_of-returns-in-Between : goal.list::encode_list_of-returns-in-Between
encode_list_of-returns-in-Between t c =
    let cx = c.args.context.now in
    subst
    (λ (s : Length). Outcome cx (list_in cx c.args.depth c.args.node c.args.is_set s c.args.item) c.args.octets.now c.args.state.now
    c.encode_between.new.octets c.encode_between.new.state c.encode_between.result) (sym c.in-Between.is)
    (c.encode_between.ensures)

pub encode_list_of-returns-in-None : goal.list::encode_list_of-returns-in-None
encode_list_of-returns-in-None t c =
    let cx = c.args.context.now in
    let node = c.args.node in
    let s = c.reject.new.state in
    let T = list_in cx c.args.depth node c.args.is_set c.args.size c.args.item in
    let p = piece_in cx.tables.ranges.now cx.source.now c.args.part in
    after_put cx T c.args.part c.args.octets.now c.args.octets.now c.args.state.now s s c.requires.next refl refl refl c.reject.result
    c.reject.result refl
    (rejected cx.is_aligned T p c.args.octets.now c.args.state.now s c.reject.result node OtherPart c.reject.ensures.result
    c.reject.ensures.at c.reject.ensures.next c.reject.ensures.node c.reject.ensures.reason
    (list_other cx c.args.depth node c.args.item c.args.is_set c.args.size p (c.in-None.ensures cx.tables.ranges.now cx.source.now)))
    (λ q. absurd (let e : true ≡ false = sym q ∙ c.reject.ensures.result in cc)) (λ q. refl)

pub encode_added_list-returns-then-is_set : goal.list::encode_added_list-returns-then-is_set
encode_added_list-returns-then-is_set t c =
    let a = c.args in
    let k = c.encode_added_set in
    subst
    (λ (b : Bool). Outcome a.context.now (added_list_in a.context.now a.depth a.node b a.size a.item) a.octets.now a.state.now k.new.octets
    k.new.state k.result) (sym c.if-is_set.true) k.ensures

pub encode_added_list-overflow_add-state : goal.list::encode_added_list-overflow_add-state
encode_added_list-overflow_add-state t c =
    let within = slice_get_within c.args.context.now.parts.now c.args.state.now.next (item.Count c.args.count) c.requires.next in
    omega (arith, within, c.requires.parts)

pub encode_added_list-returns : goal.list::encode_added_list-returns
encode_added_list-returns t c =
    let cx = c.args.context.now in
    let a = c.args in
    let n = a.count in
    let old = a.state.now in
    let mid = record old { next = old.next + 1 } in
    let last = c.encode_numbered_items in
    subst
    (λ (b : Bool). Outcome cx (added_list_in cx a.depth a.node b a.size a.item) a.octets.now old last.new.octets last.new.state last.result)
    (sym c.if-is_set.false)
    (list_done cx a.depth a.node a.item (IsAddedSize a.size) (IsOfRoot a.size) InRoot n a.octets.now old mid refl
    c.requires.added c.ranges.count.fits (part_next cx old.next (item.Count n) c.requires.next) last.new.octets last.new.state
    last.result last.ensures)

pub encode_added_set-returns-then-count-ge16384 : goal.list::encode_added_set-returns-then-count-ge16384
encode_added_set-returns-then-count-ge16384 t c =
    let cx = c.args.context.now in
    let a = c.args in
    let n = a.count in
    let k = c.reject in
    let s = k.new.state in
    let none : (at : ℕ) → CanEncode (added_length cx.is_aligned a.size a.node at).encodes n → ⊥ =
    λ at p.
    let q = permitted_of (IsAddedSize a.size) (IsOfRoot a.size) InRoot a.node (length_of cx.is_aligned a.node) at n p.list p.encoded in
    let few = length_few cx.is_aligned a.node at n q.0 q.1 in
    omega (arith, few, c.if-count-ge16384.true) in
    let T = added_list_in cx a.depth a.node true a.size a.item in
    after_put cx T (item.Count n) a.octets.now a.octets.now a.state.now s s c.requires.next refl refl refl k.result k.result refl
    (rejected cx.is_aligned T (Count n) a.octets.now a.state.now s k.result a.node NoEncoding k.ensures.result k.ensures.at k.ensures.next
    k.ensures.node k.ensures.reason (λ at rest. inl (n, refl, inl (none at, refl))))
    (λ q. absurd (let e : true ≡ false = sym q ∙ k.ensures.result in cc)) (λ q. refl)

pub encode_added_set-overflow_add-state : goal.list::encode_added_set-overflow_add-state
encode_added_set-overflow_add-state t c =
    let within = slice_get_within c.args.context.now.parts.now c.args.state.now.next (item.Count c.args.count) c.requires.next in
    omega (arith, within, c.requires.parts)

pub encode_added_set-returns : goal.list::encode_added_set-returns
encode_added_set-returns t c =
    let cx = c.args.context.now in
    let a = c.args in
    let n = a.count in
    let old = a.state.now in
    let mid = record old { at = c.put_length-state.result; next = old.next + 1 } in
    (part_step cx (added_length cx.is_aligned a.size a.node) Count (λ k. items_in cx a.depth a.node true a.item k) a.node n
    a.octets.now c.put_length-state.new.octets old mid
    (permitted_written cx.is_aligned (IsAddedSize a.size) (IsOfRoot a.size) InRoot a.node (length_of cx.is_aligned a.node) n a.octets.now
    c.put_length-state.new.octets old.at c.put_length-state.result c.requires.added (c.put_length-state.ensures a.node))
    (part_next cx old.next (item.Count n) c.requires.next)).onward c.encode_items_by.new.octets c.encode_items_by.new.state c.encode_items_by.result
    (c.encode_items_by.ensures)

pub encode_extensible_list-returns-in-None-added_count : goal.list::encode_extensible_list-returns-in-None-added_count
encode_extensible_list-returns-in-None-added_count t c =
    let cx = c.args.context.now in
    let a = c.args in
    let bit = c.put_bit-state in
    let last = c.encode_list_of in
    (root_step cx a.node (IsAddedCount a.size) (list_in cx a.depth a.node a.is_set a.size a.item)
    (added_list_in cx a.depth a.node a.is_set a.size a.item) c.in-Some.part a.octets.now bit.new.octets a.state.now bit.result
    (sym c.part_at.ensures ∙ c.in-Some.is) (bit.ensures cx.is_aligned a.node) (c.in-None-added_count.ensures cx.tables.ranges.now cx.source.now)).onward
    last.new.octets last.new.state last.result (last.ensures)

pub encode_extensible_list-returns-in-Some-added_count : goal.list::encode_extensible_list-returns-in-Some-added_count
encode_extensible_list-returns-in-Some-added_count t c =
    let cx = c.args.context.now in
    let a = c.args in
    let bit = c.put_bit-state-in-Some-added_count in
    let last = c.encode_added_list in
    let e = c.in-Some-added_count.ensures in
    (added_step cx a.node (IsAddedCount a.size) (list_in cx a.depth a.node a.is_set a.size a.item)
    (added_list_in cx a.depth a.node a.is_set a.size a.item) c.in-Some.part a.octets.now bit.new.octets a.state.now bit.result
    (sym c.part_at.ensures ∙ c.in-Some.is) (bit.ensures cx.is_aligned a.node)
    (subst (λ (p : Part). IsAddedCount a.size (piece_in cx.tables.ranges.now cx.source.now p)) (sym e.0) e.1)).onward
    last.new.octets last.new.state last.result (last.ensures)
