use Rattle.std.proofs.Common.{ℕ, subst}
use Rattle.asn1_bits.specs.Bits.{bits}
use Rattle.asn1_schema.specs.CharactersOfParts.{characters_of}
use Rattle.asn1_schema.specs.Encodings.{each}
use Rattle.asn1_x691.specs.Alphabets.{width_of}
use Rattle.asn1_x691.specs.Characters.{IsInlineText, IsOnOctetText, character, characters}
use Rattle.asn1_x691.specs.Fields.{on_octet}
use Rattle.asn1_x691_writers.specs.FieldSteps.{first_written, second_written, octet_written}
use Rattle.asn1_x691_writers.proofs.sized_texts.put_sized_characters.Goals as goal

pub returns-then-is_inline_text : goal.returns-then-is_inline_text
returns-then-is_inline_text c node =
    let a = c.args.alphabet.now in
    let aligned = a.is_aligned in
    let w = width_of aligned a.ranges.now in
    let n = c.args.text.count in
    let A = character aligned a.ranges.now node in
    first_written aligned (IsInlineText w c.args.least c.args.range n) (IsOnOctetText w c.args.least c.args.range n)
    (characters aligned a.ranges.now node n) (on_octet aligned node (each A n))
    (characters_of c.args.table.now (bits c.args.source.now) c.args.text) c.args.octets.now c.put_characters.new.octets c.args.at
    c.put_characters.result
    (subst (λ (k : ℕ). IsInlineText k c.args.least c.args.range n) c.requires.is.width (c.is_inline_text.ensures.is c.if-is_inline_text.true))
    (c.put_characters.ensures node)

pub returns : goal.returns
returns c node =
    let a = c.args.alphabet.now in
    let aligned = a.is_aligned in
    let w = width_of aligned a.ranges.now in
    let n = c.args.text.count in
    let A = character aligned a.ranges.now node in
    let text = characters_of c.args.table.now (bits c.args.source.now) c.args.text in
    let was = c.args.octets.now in
    let mid = c.put_start-start.new.octets in
    let now = c.put_characters-2.new.octets in
    let new = c.put_characters-2.result in
    second_written aligned (IsInlineText w c.args.least c.args.range n) (IsOnOctetText w c.args.least c.args.range n)
    (characters aligned a.ranges.now node n) (on_octet aligned node (each A n)) text was now c.args.at new
    (subst (λ (k : ℕ). IsOnOctetText k c.args.least c.args.range n) c.requires.is.width (c.is_inline_text.ensures.not c.if-is_inline_text.false))
    (octet_written node (each A n) text was mid now c.args.at c.put_start-start.result new aligned c.put_start-start.ensures
    (c.put_characters-2.ensures node))
