use Rattle.std.proofs.Common.{Bool, false, List, map, drop, subst}
use Rattle.asn1_bits.specs.Bits.{bits}
use Rattle.asn1_schema.specs.CharactersOfParts.{numbers_in}
use Rattle.asn1_schema.specs.Encodings.{Starts}
use Rattle.asn1_schema.specs.declared.tables.Range.{Range}
use Rattle.asn1_x691.specs.Characters.{sized_text}
use Rattle.asn1_x691_fields.specs.Characters.{character_by}
use Rattle.asn1_x691_fields.specs.Outcomes.{position, rest}
use Rattle.asn1_x691_fields.proofs.quick_texts.next_quick_between.Goals as goal

pub returns-clause-read : goal.returns-clause-read
returns-clause-read c node =
    let list = bits c.args.octets.now in
    let a = c.in_ok-alphabet.alphabet in
    let old = c.args.state.now in
    let new = c.next_few_between.new.state in
    let numbers = numbers_in a.width c.in_ok-count.count (drop c.in_ok-count.at list) in
    let P : Bool → List Range → Type 0 = λ b r.
    Starts (sized_text b r node c.args.least c.args.range (position old)).encodes (rest list old) (map (character_by a.are_numbers r) numbers)
    (rest list new) in
    let read : P a.is_aligned a.ranges.now = c.in_ok-count.ensures.read node in
    subst (λ (r : List Range). P false r) c.in_ok-alphabet.ensures.ranges
    (subst (λ (b : Bool). P b a.ranges.now) c.in_ok-alphabet.ensures.variant read)
