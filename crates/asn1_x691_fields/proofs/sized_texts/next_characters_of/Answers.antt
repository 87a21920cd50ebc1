use Rattle.std.proofs.Common.{ℕ, sym, subst, Bool}
use Rattle.std.proofs.Math.Logic.{⊎_elim}
use Rattle.asn1_bits.specs.Bits.{bits}
use Rattle.asn1_schema.specs.Encodings.{anywhere, each}
use Rattle.asn1_x691.specs.Fields.{on_octet}
use Rattle.asn1_x691.specs.Characters.{character, IsInlineText, IsOnOctetText}
use Rattle.asn1_x691.specs.Alphabets.{width_of}
use Rattle.asn1_x691_fields.specs.Characters.{characters_at}
use Rattle.asn1_x691_fields.specs.Outcomes.{IsRead}
use Rattle.asn1_x691_fields.specs.NumberSteps.{first_read, octet_read, second_read}
use Rattle.asn1_x691_fields.specs.WindowSteps.{is_inline_or_on_octet}
use Rattle.asn1_x691_fields.proofs.sized_texts.next_characters_of.Goals as goal

-- in the UNALIGNED variant both begin where they are
pub returns-then-not-alphabet-clause-read : goal.returns-then-not-alphabet-clause-read
returns-then-not-alphabet-clause-read c =
    let list = bits c.args.octets.now in
    let a = c.args.alphabet.now in
    let node = c.args.node in
    let count = c.args.count in
    let w = width_of a.is_aligned a.ranges.now in
    let field = each (character a.is_aligned a.ranges.now node) count in
    let new = c.next_characters.new.state in
    let g = λ (at : ℕ). characters_at a list at count in
    let C = IsInlineText w c.args.least c.args.range count in
    let D = IsOnOctetText w c.args.least c.args.range count in
    let read = c.next_characters.ensures.read in
    ⊎_elim
    (λ i. first_read list c.args.state.now new g C D (anywhere field) (on_octet a.is_aligned node field) c.next_characters.result i read)
    (λ o. second_read list c.args.state.now new g C D (anywhere field) (on_octet a.is_aligned node field) c.next_characters.result o
    (subst (λ (b : Bool). IsRead (on_octet b node field) g list c.args.state.now new c.next_characters.result) (sym c.if-not-alphabet.true) read))
    (is_inline_or_on_octet w c.args.least c.args.range count)

pub returns-then-is_inline_text-clause-read : goal.returns-then-is_inline_text-clause-read
returns-then-is_inline_text-clause-read c =
    let list = bits c.args.octets.now in
    let a = c.args.alphabet.now in
    let node = c.args.node in
    let count = c.args.count in
    let w = width_of a.is_aligned a.ranges.now in
    let field = each (character a.is_aligned a.ranges.now node) count in
    let new = c.next_characters-then-is_inline_text.new.state in
    first_read list c.args.state.now new (λ at. characters_at a list at count) (IsInlineText w c.args.least c.args.range count)
    (IsOnOctetText w c.args.least c.args.range count) (anywhere field) (on_octet a.is_aligned node field)
    c.next_characters-then-is_inline_text.result
    (rw c.requires.alphabet.width at (c.is_inline_text.ensures.is c.if-is_inline_text.true)) c.next_characters-then-is_inline_text.ensures.read

pub returns-clause-read : goal.returns-clause-read
returns-clause-read c =
    let list = bits c.args.octets.now in
    let a = c.args.alphabet.now in
    let node = c.args.node in
    let count = c.args.count in
    let w = width_of a.is_aligned a.ranges.now in
    let field = each (character a.is_aligned a.ranges.now node) count in
    let new = c.next_characters-2.new.state in
    second_read list c.args.state.now new (λ at. characters_at a list at count) (IsInlineText w c.args.least c.args.range count)
    (IsOnOctetText w c.args.least c.args.range count) (anywhere field) (on_octet a.is_aligned node field)
    c.next_characters-2.result
    (rw c.requires.alphabet.width at (c.is_inline_text.ensures.not c.if-is_inline_text.false))
    (octet_read list c.args.state.now c.next_start.new.state new (λ at. characters_at a list at count) a.is_aligned node field
    c.next_characters-2.result c.in_ok-next_start.ensures.read c.next_characters-2.ensures.read)
