-- Answers for the decoders of src/additions.rt.
use Rattle.std.proofs.Common.{◌≡◌, ℕ, ◌+◌, ◌-◌, ◌∷◌, List, Bool, sym, ◌∙◌, ap, subst, arith}
use Rattle.asn1_bits.specs.Bits.{bits}
use Rattle.asn1_bits.specs.Laws.DigitLaws.{length-bits}
use Rattle.asn1_schema.specs.Pieces.{Absent, Parts}
use Rattle.asn1_schema.specs.PiecesOfParts.{bits_at}
use Rattle.asn1_schema.specs.Encodings.{Encoding}
use Rattle.asn1_x691.specs.declared.fault.FaultKind.{FaultKind}
use Rattle.asn1_x691.specs.declared.fault.FaultKind.TheVariants.{NoAddition}
use Rattle.asn1_x691_fields.specs.Outcomes.{rest, position, fault_of}
use Rattle.asn1_x691_fields.specs.Steps.{within_after, moved_over, moved_on, fault_at}
use Rattle.asn1_x691_decode.specs.Decoding.{IsDecoded, told_by, by_presence, additions_in, addition_in}
use Rattle.asn1_x691_decode.proofs.Steps.{IsSamePlace, same_within, over, fails_on, outcome_on, by_true, by_false, part_decoded}
use Rattle.asn1_x691_decode.proofs.SequenceSteps.{X0, Q, T, count_step, no_bits, bits_step, some_step, none_fault, addition_step, addition_fault, no_additions}
use Rattle.asn1_x691_decode.proofs.PresenceSteps.{told_length}
use Rattle.asn1_x691_decode.proofs.+decoding.Goals as goal

pub decode_extension-returns-in-None-next_bits-clause-did : goal.additions::decode_extension-returns-in-None-next_bits-clause-did
decode_extension-returns-in-None-next_bits-clause-did t c =
    let cx = c.args.context.now in
    let list = bits cx.octets.now in
    let a = c.args in
    let n = c.in-Some.count in
    let now = c.push.new in
    let new = c.next_bits.new.state in
    (count_step cx a.depth a.node a.known a.state.now c.next_small_length.new.state now.state a.parts.now now.parts n c.requires.within
    c.next_small_length.ensures.onward c.in-Some.ensures.read
    (record { at = c.push.ensures.at; first = c.push.ensures.first; end = c.push.ensures.end }) (c.push.ensures.grown cx.tables.ranges.now list)).fault
    (fault_of new) (no_bits cx a.depth a.node a.known n (position now.state) (rest list now.state) (fault_of new) c.in-None-next_bits.ensures.read)

pub decode_extension-returns-then-not-has_one-clause-did : goal.additions::decode_extension-returns-then-not-has_one-clause-did
decode_extension-returns-then-not-has_one-clause-did t c =
    let cx = c.args.context.now in
    let list = bits cx.octets.now in
    let a = c.args in
    let n = c.in-Some.count in
    let mid = c.next_small_length.new.state in
    let now = c.push.new in
    let later = c.next_bits.new.state in
    let new = c.fail.new.state in
    let same : IsSamePlace mid now.state =
    record { at = c.push.ensures.at; first = c.push.ensures.first; end = c.push.ensures.end } in
    let within = same_within list mid now.state same
    (within_after list a.state.now mid c.requires.within (moved_on list a.state.now mid c.next_small_length.ensures.onward)) in
    let told = bits_at list c.in-Some-next_bits.at n in
    (count_step cx a.depth a.node a.known a.state.now mid now.state a.parts.now now.parts n c.requires.within
    c.next_small_length.ensures.onward c.in-Some.ensures.read same (c.push.ensures.grown cx.tables.ranges.now list)).fault (fault_of new)
    ((bits_step cx a.depth a.node a.known now.state later now.parts n told within c.next_bits.ensures.onward c.in-Some-next_bits.ensures.read).fault
    (fault_of new)
    (none_fault cx a.depth a.node a.known n (position later) told (rest list later) (fault_of new)
    (sym c.has_one.ensures ∙ c.if-not-has_one.true)
    (fault_at list later new a.node NoAddition c.next_bits.ensures.onward.inside c.fail.ensures.at c.fail.ensures.end c.fail.ensures.node c.fail.ensures.kind)))

pub decode_extension-returns-clause-did : goal.additions::decode_extension-returns-clause-did
decode_extension-returns-clause-did t c =
    let cx = c.args.context.now in
    let list = bits cx.octets.now in
    let a = c.args in
    let n = c.in-Some.count in
    let mid = c.next_small_length.new.state in
    let now = c.push.new in
    let later = c.next_bits.new.state in
    let same : IsSamePlace mid now.state =
    record { at = c.push.ensures.at; first = c.push.ensures.first; end = c.push.ensures.end } in
    let within = same_within list mid now.state same
    (within_after list a.state.now mid c.requires.within (moved_on list a.state.now mid c.next_small_length.ensures.onward)) in
    let told = bits_at list c.in-Some-next_bits.at n in
    let X = X0 cx a.depth a.node a.known in
    let K = Q cx a.depth a.node a.known n in
    let T1 = T cx a.depth a.node a.known n told in
    let D1 : ℕ → Encoding FaultKind Parts = λ at. (additions_in cx a.depth a.node n a.known.count a.known.from at).after told in
    outcome_on cx X D1 a.state.now later c.decode_additions.new.state a.parts.now now.parts c.decode_additions.new.parts c.decode_additions.result
    (over cx X K D1 a.state.now now.state later a.parts.now now.parts now.parts
    (count_step cx a.depth a.node a.known a.state.now mid now.state a.parts.now now.parts n c.requires.within
    c.next_small_length.ensures.onward c.in-Some.ensures.read same (c.push.ensures.grown cx.tables.ranges.now list))
    (over cx K T1 D1 now.state later later now.parts now.parts now.parts
    (bits_step cx a.depth a.node a.known now.state later now.parts n told within c.next_bits.ensures.onward c.in-Some-next_bits.ensures.read)
    (some_step cx a.depth a.node a.known later now.parts n told (sym c.has_one.ensures ∙ c.if-not-has_one.false))))
    c.decode_additions.ensures.did

pub decode_optional_addition-returns-in-Some-false-clause-did : goal.additions::decode_optional_addition-returns-in-Some-false-clause-did
decode_optional_addition-returns-in-Some-false-clause-did t c =
    let cx = c.args.context.now in
    let list = bits cx.octets.now in
    let a = c.args in
    let now = told_by list c.next_presence.new.presence in
    subst (λ (l : List Bool). IsDecoded cx.tables.ranges.now (by_presence cx a.depth a.node l (addition_in cx a.depth a.node (a.known.count - a.index) (a.known.from + a.index))
    (position a.state.now)).encodes list a.state.now c.push.new.state a.parts.now c.push.new.parts)
    (sym (c.in-Some-false.ensures.told ∙ ap (λ (b : Bool). b ∷ now) c.in-Some-false.field-0-test))
    (part_decoded cx Absent a.state.now c.push.new.state a.parts.now c.push.new.parts
    (record { at = c.push.ensures.at; first = c.push.ensures.first; end = c.push.ensures.end }) (c.push.ensures.grown cx.tables.ranges.now list))

pub decode_additions-returns-then-not-decode_optional_addition-clause-did : goal.additions::decode_additions-returns-then-not-decode_optional_addition-clause-did
decode_additions-returns-then-not-decode_optional_addition-clause-did t c =
    let cx = c.args.context.now in
    let list = bits cx.octets.now in
    let a = c.args in
    let l = c.loop-index in
    let one = c.decode_optional_addition in
    let p = told_by list l.presence in
    let A = addition_in cx a.depth a.node (a.known.count - l.index) (a.known.from + l.index) in
    let B : ℕ → ℕ → ℕ → List Bool → ℕ → Encoding FaultKind Parts =
    λ left known from q at. (additions_in cx a.depth a.node left known from at).after q in
    fails_on cx (B a.presence.left a.known.count a.known.from (told_by list a.presence))
    (B l.presence.left (a.known.count - l.index) (a.known.from + l.index) p) a.state.now l.state one.new.state a.parts.now l.parts
    one.new.parts l.invariant.4
    (addition_fault cx a.depth a.node l.presence.left (a.known.count - l.index) (a.known.from + l.index) p (position l.state)
    (rest list l.state) (fault_of one.new.state) (omega (arith, l.invariant.3, c.loop-index-test.true)) (by_false cx (by_presence cx a.depth a.node p A) l.state one.new.state l.parts one.new.parts one.result
    c.if-not-decode_optional_addition.true one.ensures.did))

pub decode_additions-loop-index-preserved : goal.additions::decode_additions-loop-index-preserved
decode_additions-loop-index-preserved t c =
    let cx = c.args.context.now in
    let list = bits cx.octets.now in
    let a = c.args in
    let l = c.loop-index in
    let one = c.decode_optional_addition in
    let now = one.new in
    let p = told_by list l.presence in
    let A = addition_in cx a.depth a.node (a.known.count - l.index) (a.known.from + l.index) in
    let B : ℕ → ℕ → ℕ → List Bool → ℕ → Encoding FaultKind Parts =
    λ left known from q at. (additions_in cx a.depth a.node left known from at).after q in (
      within_after list l.state now.state l.invariant.0 one.ensures.moved,
      moved_over list a.state.now l.state now.state l.invariant.1 one.ensures.moved,
      one.ensures.bits,
      omega (arith, l.invariant.3, one.ensures.fewer),
      over cx (B a.presence.left a.known.count a.known.from (told_by list a.presence))
          (B l.presence.left (a.known.count - l.index) (a.known.from + l.index) p)
          (B now.presence.left (a.known.count - (l.index + 1)) (a.known.from + (l.index + 1)) (told_by list now.presence))
          a.state.now l.state now.state a.parts.now l.parts now.parts l.invariant.4
          (addition_step cx a.depth a.node l.presence.left a.known.count a.known.from l.index now.presence.left p (told_by list now.presence)
          l.state now.state l.parts now.parts one.ensures.fewer l.invariant.0 one.ensures.moved
          (by_true cx (by_presence cx a.depth a.node p A) l.state now.state l.parts now.parts one.result c.if-not-decode_optional_addition.false
          one.ensures.did) one.ensures.told),
    )

pub decode_additions-returns-clause-did : goal.additions::decode_additions-returns-clause-did
decode_additions-returns-clause-did t c =
    let cx = c.args.context.now in
    let list = bits cx.octets.now in
    let a = c.args in
    let l = c.loop-index in
    let none : l.presence.left ≡ 0 = omega (arith, l.invariant.3, c.loop-index-test.false) in
    l.invariant.4.done l.state l.parts
    (no_additions cx a.depth a.node l.presence.left (a.known.count - l.index) (a.known.from + l.index) (told_by list l.presence) l.state l.parts
    none (told_length list l.presence (omega (arith, length-bits cx.octets.now, l.invariant.2)) ∙ none))
