use Rattle.std.proofs.Common.{◌≡◌, ℕ, ◌+◌, ◌*◌, ◌≤◌, take, drop, length, refl, ◌∙◌, ap, arith}
use Rattle.std.proofs.lemmas.List.{length-drop}
use Rattle.asn1_bits.specs.Bits.{bits, number}
use Rattle.asn1_bits.specs.Laws.DigitLaws.{length-bits}
use Rattle.asn1_x691_fields.specs.declared.state.State.{State}
use Rattle.asn1_x691_fields.specs.Characters.{characters_at}
use Rattle.asn1_x691_fields.specs.TextSteps.{codes_encode}
use Rattle.asn1_x691_fields.proofs.QuickLemmas.{sized_quickly}
use Rattle.asn1_x691_fields.proofs.quick_texts.next_few_between.Goals as goal

pub window_at-requires-clause-within : goal.window_at-requires-clause-within
window_at-requires-clause-within c =
    omega (arith, c.if-at-state.false, c.requires.within.ends, c.requires.within.inside, length-bits c.args.octets.now)

pub returns-clause-read : goal.returns-clause-read
returns-clause-read c node =
    let list = bits c.args.octets.now in
    let a = c.args.alphabet.now in
    let s = c.args.state.now in
    let first = c.width_to_few-first.result in
    let count = c.args.least + c.number_in-more.result in
    let size = a.width * count in
    let fits : s.at + (first + size) ≤ s.end = omega (arith, c.if-size-state.false, c.requires.within.ends) in
    let is = c.in_ok-window.ensures.is in
    let here : s.at + 0 ≡ s.at = omega arith in
    let more : c.number_in-more.result ≡ number (take first (drop s.at list)) =
    c.number_in-more.ensures ∙ is.numbers 0 first (omega (arith, c.if-window-size-gt63.false))
    ∙ ap (λ (p : ℕ). number (take first (drop p list))) here in
    let within : s.at + (first + size) ≤ length list = omega (arith, fits, c.requires.within.inside) in
    let codes = c.have_codes.ensures list s.at is within c.if-not-have_codes.false in
    let some : size ≤ length (drop (s.at + first) list) = omega (arith, within, length-drop (s.at + first) list) in
    let new : State = record { at = s.at + (first + size); first = s.first; end = s.end; count = s.count; node = s.node; kind = s.kind } in
    sized_quickly list s new c.requires.within a.is_aligned a.ranges.now node c.args.least c.args.range c.number_in-more.result first size (characters_at a list (s.at + first) count)
    c.requires.unaligned c.if-more-range.false c.width_to_few-first.ensures.value more fits
    (codes_encode a node count (drop (s.at + first) list) c.requires.alphabet.width some codes)
    refl refl
