use Rattle.std.proofs.Common.{ℕ, ◌^◌, ◌<◌, length, subst, arith}
use Rattle.asn1_bits.specs.Bits.{bits, digits}
use Rattle.asn1_bits.specs.Laws.DigitLaws.{length-bits}
use Rattle.asn1_schema.specs.CharactersOfParts.{characters_of}
use Rattle.asn1_x691_writers.specs.TextSteps.{none_left}
use Rattle.asn1_x691_writers.specs.Written.{IsGrown}
use Rattle.asn1_x690_writers.specs.TextSteps.{first_code, first_within, not_cut, text_begun, text_more, text_done}
use Rattle.asn1_x690_writers.proofs.texts.put_each_character.Goals as goal

pub loop-left-init : goal.loop-left-init
loop-left-init c =
    text_begun c.args.width (characters_of c.args.table.now (bits c.args.source.now) c.args.text) c.args.octets.now c.args.at c.requires.below

pub put_number-next-requires-clause-below : goal.put_number-next-requires-clause-below
put_number-next-requires-clause-below c =
    let a = c.args in
    let l = c.loop-left in
    let b = first_within a.table.now (bits a.source.now) l.left a.width c.loop-left-test.true l.invariant.below in
    omega (arith, b, c.first_character-character.ensures)

pub loop-left-preserved : goal.loop-left-preserved
loop-left-preserved c =
    let a = c.args in
    let l = c.loop-left in
    let list = bits a.source.now in
    let few : length list < 2 ^ 64 = omega (arith, length-bits a.source.now, c.requires.source) in
    let b = first_within a.table.now list l.left a.width c.loop-left-test.true l.invariant.below in
    let same = not_cut (first_code a.table.now list l.left) c.first_character-character.result a.width c.requires.few
    c.first_character-character.ensures b in
    text_more a.width (characters_of a.table.now list a.text) a.octets.now a.at l.octets l.next (characters_of a.table.now list l.left) l.invariant
    (first_code a.table.now list l.left) (characters_of a.table.now list c.other_characters-left.result) c.put_number-next.new.octets
    c.put_number-next.result (c.other_characters-left.ensures.characters a.table.now list few) c.requires.whole
    (subst (λ (n : ℕ). IsGrown l.octets l.next c.put_number-next.new.octets c.put_number-next.result (digits n a.width)) same
    c.put_number-next.ensures)

pub returns : goal.returns
returns c =
    let a = c.args in
    let l = c.loop-left in
    let all = characters_of a.table.now (bits a.source.now) a.text in
    text_done a.width all a.octets.now a.at l.octets l.next (characters_of a.table.now (bits a.source.now) l.left) l.invariant
    (none_left a.table.now (bits a.source.now) l.left (omega (arith, c.loop-left-test.false)))
