use Rattle.std.proofs.Common.{ℕ, ◌+◌}
use Rattle.asn1_bits.specs.Bits.{bits}
use Rattle.asn1_x691.specs.Fields.{constrained}
use Rattle.asn1_x691.specs.Characters.{sized_characters, sized_text}
use Rattle.asn1_x691_fields.specs.Characters.{characters_at}
use Rattle.asn1_x691_fields.specs.Outcomes.{rest, fault_of}
use Rattle.asn1_x691_fields.specs.Steps.{turn_starts, turn_fault}
use Rattle.asn1_x691_fields.specs.StringSteps.{none_read}
use Rattle.asn1_x691_fields.proofs.sized_texts.next_sized_text.Goals as goal

pub returns-in_err-at-clause-read : goal.returns-in_err-at-clause-read
returns-in_err-at-clause-read c =
    let list = bits c.args.octets.now in
    let a = c.args.alphabet.now in
    let node = c.args.node in
    let least = c.args.least in
    let range = c.args.range in
    let new = c.next_characters_of.new.state in
    none_read (sized_text a.is_aligned a.ranges.now node least range) (λ (p : ℕ × ℕ). characters_at a list p.1 p.0) list
    c.args.state.now new c.from_residual-in_err-at.result c.from_residual-in_err-at.ensures
    (turn_fault list c.args.state.now c.next_constrained.new.state c.requires.within c.in_ok-more.ensures.onward
    (constrained a.is_aligned range node) (λ d text. text)
    (λ d. sized_characters a.is_aligned a.ranges.now node least range (least + d)) c.in_ok-more.more c.in_ok-more.ensures.read
    (fault_of new) c.in_err-at.ensures.read)

pub returns-clause-read : goal.returns-clause-read
returns-clause-read c =
    let list = bits c.args.octets.now in
    let a = c.args.alphabet.now in
    let node = c.args.node in
    let least = c.args.least in
    let range = c.args.range in
    let new = c.next_characters_of.new.state in
    turn_starts list c.args.state.now c.next_constrained.new.state c.requires.within c.in_ok-more.ensures.onward
    (constrained a.is_aligned range node) (λ d text. text)
    (λ d. sized_characters a.is_aligned a.ranges.now node least range (least + d)) c.in_ok-more.more c.in_ok-more.ensures.read
    (rest list new) (characters_at a list c.in_ok-at.at (least + c.in_ok-more.more)) c.in_ok-at.ensures.read
