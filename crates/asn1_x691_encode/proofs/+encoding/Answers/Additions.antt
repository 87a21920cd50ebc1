-- Answers for the encoders of src/additions.rt.
use Rattle.std.proofs.Common.{◌≡◌, ℕ, ◌+◌, ◌-◌, ◌<◌, Bool, true, false, refl, sym, ◌∙◌, subst, inl, inr, arith}
use Rattle.std.specs.Prelude.{◌||◌}
use Rattle.std.proofs.lemmas.Option.{slice_get_within}
use Rattle.asn1_schema.specs.declared.misfit.MisfitKind.TheVariants.{OtherPart, NoEncoding}
use Rattle.asn1_schema.specs.declared.part.Part.TheVariants as item
use Rattle.asn1_schema.specs.Encodings.{CanEncode}
use Rattle.asn1_schema.specs.Pieces.{Additions}
use Rattle.asn1_x691.specs.Fields.{small_length}
use Rattle.asn1_x691_writers.specs.Put.{piece_in}
use Rattle.asn1_x691_writers.specs.PutSteps.{rejected}
use Rattle.asn1_x691_writers.specs.FarSteps.{small_length_within}
use Rattle.asn1_x691_encode.specs.Encoding.{Outcome, addition_in, additions_in, extension_in, present_additions_in}
use Rattle.asn1_x691_encode.specs.Additions.{IsPresence, AdditionStep}
use Rattle.asn1_x691_encode.specs.AdditionSteps.{HasAdditions, known_done, addition_known, addition_unknown, addition_present, addition_misfit, additions_first, additions_on, step_fails, present_misfit, present_done, present_none}
use Rattle.asn1_x691_encode.specs.LeafSteps.{after_put, part_next}
use Rattle.asn1_x691_encode.specs.ListSteps.{part_step}
use Rattle.asn1_x691_encode.proofs.+encoding.Goals as goal
use Rattle.asn1_x691_encode.proofs.+encoding.Goals.{additions::encode_counted-then-count-eq0-via-then-count-eq0, additions::encode_counted-then-count-eq0-via-else-count-eq0+then-count-ge16384}

pub encode_addition-returns-then-index-known : goal.additions::encode_addition-returns-then-index-known
encode_addition-returns-then-index-known t c =
    let a = c.args in
    let k = c.encode_unknown in
    addition_unknown a.context.now a.depth a.node a.known a.index a.octets.now k.new.octets a.state.now k.new.state k.result
    c.if-index-known.true k.ensures

pub encode_addition-returns : goal.additions::encode_addition-returns
encode_addition-returns t c =
    let a = c.args in
    let k = c.encode_known in
    addition_known a.context.now a.depth a.node a.known a.index a.octets.now k.new.octets a.state.now k.new.state k.result
    c.if-index-known.false (k.ensures)

pub encode_known-returns-in-Some : goal.additions::encode_known-returns-in-Some
encode_known-returns-in-Some t c =
    let a = c.args in
    let k = c.encode_open_type in
    known_done a.context.now a.depth a.node a.octets.now k.new.octets a.state.now k.new.state k.result (a.from + a.index)
    c.in-Some.member (sym c.member_from.ensures ∙ c.in-Some.is) k.ensures

pub encode_optional_addition-returns-then-not-is_present : goal.additions::encode_optional_addition-returns-then-not-is_present
encode_optional_addition-returns-then-not-is_present t c =
    let a = c.args in
    let cx = a.context.now in
    let old = a.state.now in
    let new = record old { next = old.next + 1 } in
    let p = subst (λ (b : Bool). IsPresence cx old.next b) c.if-not-is_present.true c.requires.present in
    subst
    (λ (b : Bool). AdditionStep cx (addition_in cx a.depth a.node (a.known.count - a.index) (a.known.from + a.index)) a.head b a.octets.now old
    a.octets.now new true) (sym c.if-not-is_present.true) (refl, record { taken = p.1; octets = refl; at = refl })

pub encode_optional_addition-returns : goal.additions::encode_optional_addition-returns
encode_optional_addition-returns t c =
    let a = c.args in
    let cx = a.context.now in
    let old = a.state.now in
    let k = c.encode_addition in
    let A = addition_in cx a.depth a.node (a.known.count - a.index) (a.known.from + a.index) in
    let p = subst (λ (b : Bool). IsPresence cx old.next b) c.if-not-is_present.false c.requires.present in
    subst (λ (b : Bool). AdditionStep cx A a.head b a.octets.now old k.new.octets k.new.state k.result) (sym c.if-not-is_present.false)
    (addition_present cx A a.head a.octets.now c.set_bit.new.octets old k.new.octets k.new.state k.result p c.set_bit.ensures k.ensures)

pub encode_counted-overflow_add-state : goal.additions::encode_counted-overflow_add-state
encode_counted-overflow_add-state t c =
    let within = slice_get_within c.args.context.now.parts.now c.args.state.now.next (item.Additions c.args.count) c.requires.next in
    omega (arith, within, c.requires.parts)

pub encode_counted-returns-then-count-eq0 : goal.additions::encode_counted-returns-then-count-eq0
encode_counted-returns-then-count-eq0 t c =
    let cx = c.args.context.now in
    let node = c.args.node in
    let n = c.args.count in
    let s = c.reject.new.state in
    let none : (at : ℕ) → CanEncode (small_length cx.is_aligned node at).encodes n → ⊥ = elim c.then-count-eq0.branch [
      | additions::encode_counted-then-count-eq0-via-then-count-eq0 w ↦
          λ at p.
          let h = small_length_within cx.is_aligned node at n p.list p.encoded in
          omega (arith, h.0, w.if-count-eq0)
      | additions::encode_counted-then-count-eq0-via-else-count-eq0+then-count-ge16384 w ↦
          λ at p.
          let h = small_length_within cx.is_aligned node at n p.list p.encoded in
          omega (arith, h.1, w.if-count-ge16384)
    ] in
    let T = extension_in cx c.args.depth node c.args.known in
    after_put cx T (item.Additions n) c.args.octets.now c.args.octets.now c.args.state.now s s c.requires.next refl refl refl c.reject.result
    c.reject.result refl
    (rejected cx.is_aligned T (Additions n) c.args.octets.now c.args.state.now s c.reject.result node NoEncoding c.reject.ensures.result
    c.reject.ensures.at c.reject.ensures.next c.reject.ensures.node c.reject.ensures.reason
    (λ at rest. inl (n, refl, inl (none at, refl))))
    (λ q. absurd (let e : true ≡ false = sym q ∙ c.reject.ensures.result in cc)) (λ q. refl)

pub encode_counted-returns : goal.additions::encode_counted-returns
encode_counted-returns t c =
    let cx = c.args.context.now in
    let a = c.args in
    let old = a.state.now in
    let k = c.put_small_length-state in
    let mid = record old { at = k.result; next = old.next + 1 } in
    let last = c.encode_present in
    (part_step cx (small_length cx.is_aligned a.node) Additions (λ n. present_additions_in cx a.depth a.node a.known n) a.node a.count
    a.octets.now k.new.octets old mid (k.ensures a.node) (part_next cx old.next (item.Additions a.count) c.requires.next)).onward
    last.new.octets last.new.state last.result (last.ensures)

pub encode_extension-returns-in-None-additions_of : goal.additions::encode_extension-returns-in-None-additions_of
encode_extension-returns-in-None-additions_of t c =
    let cx = c.args.context.now in
    let a = c.args in
    let k = c.reject-in-None-additions_of in
    let s = k.new.state in
    let T = extension_in cx a.depth a.node a.known in
    let part = c.in-Some.part in
    let p = piece_in cx.tables.ranges.now cx.source.now part in
    after_put cx T part a.octets.now a.octets.now a.state.now s s (sym c.part_at.ensures ∙ c.in-Some.is) refl refl refl k.result k.result refl
    (rejected cx.is_aligned T p a.octets.now a.state.now s k.result a.node OtherPart k.ensures.result k.ensures.at k.ensures.next
    k.ensures.node k.ensures.reason
    (λ at rest. inr (c.in-None-additions_of.ensures cx.tables.ranges.now cx.source.now, refl)))
    (λ q. absurd (let e : true ≡ false = sym q ∙ k.ensures.result in cc)) (λ q. refl)

pub encode_present-loop-index-init : goal.additions::encode_present-loop-index-init
encode_present-loop-index-init t c =
    let a = c.args in
    let cx = a.context.now in
    let old = a.state.now in
    let zeros = c.put_zeros-state in
    let mid = record old { at = zeros.result } in
    let n = a.count in
    let known = a.known.count in
    let from = a.known.from in
    let e : n ≡ n - 0 = omega arith in
    let f : known ≡ known - 0 = omega arith in
    let g : from ≡ from + 0 = omega arith in (
      omega arith,
      let W = additions_in cx a.depth a.node n known from in
          subst
          (λ (i : ℕ). HasAdditions cx W (additions_in cx a.depth a.node i (known - 0) (from + 0)) n i a.octets.now old.at mid
          zeros.new.octets mid old.at false) e
          (subst
          (λ (i : ℕ). HasAdditions cx W (additions_in cx a.depth a.node n i (from + 0)) n n a.octets.now old.at mid
          zeros.new.octets mid old.at false) f
          (subst
          (λ (i : ℕ). HasAdditions cx W (additions_in cx a.depth a.node n known i) n n a.octets.now old.at mid zeros.new.octets mid
          old.at false) g
          (additions_first cx a.depth a.node W n a.octets.now old.at mid zeros.new.octets zeros.ensures))),
    )

pub encode_present-loop-index-preserved : goal.additions::encode_present-loop-index-preserved
encode_present-loop-index-preserved t c =
    let a = c.args in
    let cx = a.context.now in
    let old = a.state.now in
    let zeros = c.put_zeros-state in
    let mid = record old { at = zeros.result } in
    let l = c.loop-index in
    let k = c.encode_optional_addition in
    let n = a.count in
    let here = c.is_present-here.result in
    let last = c.after-head.result in
    let left = n - l.index in
    let known = a.known.count - l.index in
    let from = a.known.from + l.index in
    let e : left - 1 ≡ n - (l.index + 1) = omega arith in
    let f : known - 1 ≡ a.known.count - (l.index + 1) = omega arith in
    let g : from + 1 ≡ a.known.from + (l.index + 1) = omega arith in
    let some : 0 < left = omega (arith, c.loop-index-test.true) in (
      omega (arith, c.loop-index-test.true),
      let W = additions_in cx a.depth a.node n a.known.count a.known.from in
          let o = c.if-not-encode_optional_addition.ensures in
          subst
          (λ (b : Bool). HasAdditions cx W
          (additions_in cx a.depth a.node (n - (l.index + 1)) (a.known.count - (l.index + 1)) (a.known.from + (l.index + 1))) n
          (n - (l.index + 1)) a.octets.now old.at mid k.new.octets k.new.state last b) (sym c.either-has_one.ensures)
          (subst
          (λ (i : ℕ). HasAdditions cx W
          (additions_in cx a.depth a.node i (a.known.count - (l.index + 1)) (a.known.from + (l.index + 1))) n i a.octets.now old.at
          mid k.new.octets k.new.state last (l.has_one || here)) e
          (subst
          (λ (i : ℕ). HasAdditions cx W
          (additions_in cx a.depth a.node (left - 1) i (a.known.from + (l.index + 1))) n (left - 1) a.octets.now old.at
          mid k.new.octets k.new.state last (l.has_one || here)) f
          (subst
          (λ (i : ℕ). HasAdditions cx W (additions_in cx a.depth a.node (left - 1) (known - 1) i) n (left - 1) a.octets.now
          old.at mid k.new.octets k.new.state last (l.has_one || here)) g
          (additions_on cx a.depth a.node W n a.octets.now old.at mid left known from l.octets k.new.octets l.state
          k.new.state l.head last here l.has_one some o l.invariant.1 c.after-head.ensures)))),
    )

pub encode_present-returns-then-not-encode_optional_addition : goal.additions::encode_present-returns-then-not-encode_optional_addition
encode_present-returns-then-not-encode_optional_addition t c =
    let a = c.args in
    let cx = a.context.now in
    let old = a.state.now in
    let zeros = c.put_zeros-state in
    let mid = record old { at = zeros.result } in
    let l = c.loop-index in
    let k = c.encode_optional_addition in
    let n = a.count in
    let here = c.is_present-here.result in
    let left = n - l.index in
    let known = a.known.count - l.index in
    let from = a.known.from + l.index in
    let some : 0 < left = omega (arith, c.loop-index-test.true) in
    let W = additions_in cx a.depth a.node n a.known.count a.known.from in
    let A = addition_in cx a.depth a.node known from in
    let o = c.if-not-encode_optional_addition.ensures in
    let f = step_fails cx A l.head l.octets l.state k.new.octets k.new.state here o in
    elim f.1 [
      | inl m ↦
          inl (present_misfit cx a.depth a.node a.known n a.octets.now zeros.new.octets old mid refl zeros.ensures k.new.state
          (addition_misfit cx a.depth a.node W n a.octets.now old.at mid left known from l.octets k.new.octets l.state
          k.new.state l.head l.has_one some f.0 m l.invariant.1))
      | inr u ↦ inr u
    ]

pub encode_present-returns-then-not-has_one : goal.additions::encode_present-returns-then-not-has_one
encode_present-returns-then-not-has_one t c =
    let a = c.args in
    let cx = a.context.now in
    let old = a.state.now in
    let zeros = c.put_zeros-state in
    let mid = record old { at = zeros.result } in
    let l = c.loop-index in
    let k = c.reject in
    let n = a.count in
    let left = n - l.index in
    let known = a.known.count - l.index in
    let from = a.known.from + l.index in
    let W = additions_in cx a.depth a.node n a.known.count a.known.from in
    let h = subst
    (λ (b : Bool). HasAdditions cx W (additions_in cx a.depth a.node left known from) n left a.octets.now old.at mid l.octets l.state
    l.head b) c.if-not-has_one.true l.invariant.1 in
    subst (λ (b : Bool). Outcome cx (present_additions_in cx a.depth a.node a.known n) a.octets.now old l.octets k.new.state b)
    (sym k.ensures.result)
    (inl (present_none cx a.depth a.node a.known n a.octets.now zeros.new.octets old mid refl zeros.ensures left known from l.octets
    l.state k.new.state l.head (omega (arith, c.loop-index-test.false)) h k.ensures.next k.ensures.node k.ensures.reason))

pub encode_present-returns : goal.additions::encode_present-returns
encode_present-returns t c =
    let a = c.args in
    let cx = a.context.now in
    let old = a.state.now in
    let zeros = c.put_zeros-state in
    let mid = record old { at = zeros.result } in
    let l = c.loop-index in
    let n = a.count in
    let left = n - l.index in
    let known = a.known.count - l.index in
    let from = a.known.from + l.index in
    let W = additions_in cx a.depth a.node n a.known.count a.known.from in
    let h = subst
    (λ (b : Bool). HasAdditions cx W (additions_in cx a.depth a.node left known from) n left a.octets.now old.at mid l.octets l.state
    l.head b) c.if-not-has_one.false l.invariant.1 in
    present_done cx a.depth a.node a.known n a.octets.now zeros.new.octets old mid refl zeros.ensures left known from l.octets
    l.state l.head (omega (arith, c.loop-index-test.false)) h
