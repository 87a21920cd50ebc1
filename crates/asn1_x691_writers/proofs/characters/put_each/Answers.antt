use Rattle.std.proofs.Common.{◌≡◌, ℕ, ◌^◌, ◌<◌, length, sym, subst, arith}
use Rattle.asn1_bits.specs.Bits.{bits, number}
use Rattle.asn1_bits.specs.Laws.DigitLaws.{length-bits}
use Rattle.asn1_schema.specs.CharactersOfParts.{character_of}
use Rattle.asn1_schema.specs.Encodings.{anywhere}
use Rattle.asn1_schema.specs.PiecesOfParts.{bits_at}
use Rattle.asn1_x691.specs.Alphabets.{IsIn}
use Rattle.asn1_x691.specs.Characters.{character}
use Rattle.asn1_x691_writers.specs.Written.{IsWritten}
use Rattle.asn1_x691_writers.specs.TextSteps.{first_in, none_left}
use Rattle.asn1_x691_writers.proofs.CharacterLemmas.{not_cut, underway_first, underway_next, underway_last}
use Rattle.asn1_x691_writers.proofs.characters.put_each.Goals as goal

pub loop-left-init : goal.loop-left-init
loop-left-init c =
    underway_first c.args.alphabet.now c.args.table.now (bits c.args.source.now) c.args.text c.args.octets.now c.args.at c.requires.within

pub put_character-next-requires-clause-within : goal.put_character-next-requires-clause-within
put_character-next-requires-clause-within c =
    let a = c.args.alphabet.now in
    let list = bits c.args.source.now in
    let left = c.loop-left.left in
    let q = first_in c.args.table.now list left a.ranges.now c.loop-left-test.true c.loop-left.invariant.within in
    let same = not_cut a.ranges.now (character_of c.args.table.now left.codes (number (bits_at list left.at left.width)))
    c.first_character-character.result c.requires.is.small c.first_character-character.ensures q in
    subst (λ (n : ℕ). IsIn a.ranges.now n) (sym same) q

pub loop-left-preserved : goal.loop-left-preserved
loop-left-preserved c =
    let a = c.args.alphabet.now in
    let list = bits c.args.source.now in
    let left = c.loop-left.left in
    let x = character_of c.args.table.now left.codes (number (bits_at list left.at left.width)) in
    let q = first_in c.args.table.now list left a.ranges.now c.loop-left-test.true c.loop-left.invariant.within in
    let same = not_cut a.ranges.now x c.first_character-character.result c.requires.is.small c.first_character-character.ensures q in
    let few : length list < 2 ^ 64 = omega (arith, length-bits c.args.source.now, c.requires.source) in
    underway_next a c.args.table.now list c.args.text c.args.octets.now c.args.at c.loop-left.octets c.put_character-next.new.octets
    c.loop-left.next c.put_character-next.result x left c.other_characters-left.result c.loop-left.invariant
    c.other_characters-left.ensures.count (c.other_characters-left.ensures.characters c.args.table.now list few)
    (λ node.
    subst
    (λ (n : ℕ).
    IsWritten a.is_aligned (anywhere (character a.is_aligned a.ranges.now node)) n c.loop-left.octets c.loop-left.next
    c.put_character-next.new.octets c.put_character-next.result) same
    (c.put_character-next.ensures node))

pub returns : goal.returns
returns c node =
    let none : c.loop-left.left.count ≡ 0 = omega (arith, c.loop-left-test.false) in
    underway_last c.args.alphabet.now c.args.table.now (bits c.args.source.now) c.args.text c.args.octets.now c.args.at c.loop-left.octets
    c.loop-left.next node c.loop-left.left c.loop-left.invariant none
    (none_left c.args.table.now (bits c.args.source.now) c.loop-left.left none)
