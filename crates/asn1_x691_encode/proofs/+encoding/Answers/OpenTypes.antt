-- Answers for the encoders of src/open_type.rt.
use Rattle.std.proofs.Common.{◌≡◌, ℕ, ◌+◌, ◌-◌, ◌*◌, ◌/◌, ◌%◌, ◌^◌, ◌<◌, List, ◌++◌, Bool, length, refl, sym, subst, inl, inr, arith}
use Rattle.std.specs.Prelude.{◌⊎◌}
use Rattle.std.proofs.lemmas.Bool.{cases_lt}
use Rattle.asn1_x691_writers.specs.Written.{IsIndex, IsGrown, start_of}
use Rattle.asn1_x691_encode.specs.CompleteSteps.{octets_fail, value_index, octets_long, octets_done}
use Rattle.asn1_x691_encode.specs.Enclosed.{EnclosedOutcome}
use Rattle.asn1_x691_encode.specs.OpenSteps.{open_fails, open_done}
use Rattle.asn1_x691_encode.proofs.+encoding.Goals as goal

pub encode_octets-returns-then-not-encode_value : goal.open_type::encode_octets-returns-then-not-encode_value
encode_octets-returns-then-not-encode_value t c =
    let a = c.args in
    let begun = record a.state.now { at = c.put_zeros-state.result } in
    octets_fail a.context.now a.depth a.node a.presence a.inner a.octets.now c.put_zeros-state.new.octets c.encode_value.new.octets a.state.now
    begun c.encode_value.new.state c.requires.start c.requires.begins refl c.put_zeros-state.ensures (c.if-not-encode_value.ensures)

pub encode_octets-put_length_before-state-requires-clause-few : goal.open_type::encode_octets-put_length_before-state-requires-clause-few
encode_octets-put_length_before-state-requires-clause-few t c =
    let a = c.args in
    let begun = record a.state.now { at = c.put_zeros-state.result } in
    let e = c.if-not-encode_value.ensures in
    (c.in-Some.ensures (length e.written.list)
    (value_index a.context.now a.depth a.node a.presence a.inner a.octets.now c.put_zeros-state.new.octets c.encode_value.new.octets a.state.now
    begun c.encode_value.new.state c.requires.start c.requires.begins refl c.put_zeros-state.ensures e)).few

pub encode_octets-returns-in-None : goal.open_type::encode_octets-returns-in-None
encode_octets-returns-in-None t c =
    let a = c.args in
    let cx = a.context.now in
    let begun = record a.state.now { at = c.put_zeros-state.result } in
    let e = c.if-not-encode_value.ensures in
    let k = c.leave in
    let many = c.in-None.ensures (length e.written.list)
    (value_index cx a.depth a.node a.presence a.inner a.octets.now c.put_zeros-state.new.octets c.encode_value.new.octets a.state.now
    begun c.encode_value.new.state c.requires.start c.requires.begins refl c.put_zeros-state.ensures e) in
    subst (λ (b : Bool). EnclosedOutcome cx a.depth a.node a.presence a.inner a.octets.now a.state.now c.pad.new.octets k.new.state b)
    (sym k.ensures.result)
    (inr (octets_long cx a.depth a.node a.presence a.inner a.octets.now c.put_zeros-state.new.octets c.encode_value.new.octets a.state.now
    begun c.encode_value.new.state c.requires.start c.requires.begins refl c.put_zeros-state.ensures e k.new.state k.ensures.next k.ensures.reason
    many))

pub encode_octets-returns-in-Some : goal.open_type::encode_octets-returns-in-Some
encode_octets-returns-in-Some t c =
    let a = c.args in
    let cx = a.context.now in
    let begun = record a.state.now { at = c.put_zeros-state.result } in
    let e = c.if-not-encode_value.ensures in
    let k = c.put_length_before-state in
    let p = c.in-Some.ensures (length e.written.list)
    (value_index cx a.depth a.node a.presence a.inner a.octets.now c.put_zeros-state.new.octets c.encode_value.new.octets a.state.now
    begun c.encode_value.new.state c.requires.start c.requires.begins refl c.put_zeros-state.ensures e) in
    octets_done cx a.depth a.node a.presence a.inner a.octets.now c.put_zeros-state.new.octets c.encode_value.new.octets a.state.now
    begun c.encode_value.new.state c.requires.start c.requires.begins refl c.put_zeros-state.ensures e c.pad.new.octets k.new.octets
    c.in-Some.count k.result p k.ensures.index (k.ensures.grown a.octets.now)

pub encode_open_type-returns-then-not-encode_octets : goal.open_type::encode_open_type-returns-then-not-encode_octets
encode_open_type-returns-then-not-encode_octets t c =
    let a = c.args in
    let split = c.split_at_mut-tail in
    open_fails a.context.now a.depth a.node a.presence a.inner a.octets.now a.state.now split.result.1.now c.encode_octets.new.octets
    (split.result.0.now ++ c.encode_octets.new.octets) (c.put_beginning-start.result % 8) c.encode_octets.new.state
    (c.if-not-encode_octets.ensures)

pub encode_open_type-returns : goal.open_type::encode_open_type-returns
encode_open_type-returns t c =
    let a = c.args in
    let cx = a.context.now in
    let begun = c.put_beginning-start in
    let start = begun.result in
    let split = c.split_at_mut-tail in
    let front = split.result.0.now in
    let tail = split.result.1.now in
    let k = c.encode_octets in
    let last = k.new.state in
    let at = c.after-state.result in
    let size : 8 * length (front ++ tail) < 2 ^ 64 =
    subst (λ (l : List ℕ). 8 * length l < 2 ^ 64) split.ensures.value (omega (arith, begun.auto.octets, c.requires.size)) in
    let whole : length (front ++ tail) ≡ length begun.new.octets =
    subst (λ (l : List ℕ). length l ≡ length begun.new.octets) split.ensures.value refl in
    let inside : (length front ≡ start / 8) ⊎ (length (front ++ tail) < start / 8) = elim (cases_lt (length (front ++ tail)) (start / 8)) [
      | inl lt ↦ inr lt
      | inr le ↦ inl (omega (arith, le, whole, split.ensures.front_len, c.min-before.ensures))
    ] in
    let index : (n : ℕ) → IsIndex start n → IsIndex at (n + (last.at - start % 8)) =
    λ n h. subst (λ (j : ℕ). IsIndex at (n + j)) c.saturating_sub.ensures (c.after-state.ensures n h) in
    open_done cx a.depth a.node a.presence a.inner a.octets.now a.state.now front tail k.new.octets start at last size k.auto.octets inside
    (subst (λ (l : List ℕ). IsGrown a.octets.now a.state.now.at l start (start_of cx.is_aligned a.state.now.at)) split.ensures.value
    begun.ensures.grown) (c.if-not-encode_octets.ensures) index
