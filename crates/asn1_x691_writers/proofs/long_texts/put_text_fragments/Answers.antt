use Rattle.std.proofs.Common.{ℕ, ◌^◌, ◌<◌, List, length, subst, arith}
use Rattle.asn1_bits.specs.Bits.{bits}
use Rattle.asn1_bits.specs.Laws.DigitLaws.{length-bits}
use Rattle.asn1_schema.specs.CharactersOfParts.{characters_of}
use Rattle.asn1_x691_writers.specs.Texts.{AreIn}
use Rattle.asn1_x691_writers.specs.TextSteps.{in_both}
use Rattle.asn1_x691_writers.proofs.TextLemmas.{fragmented_first, fragmented_next, fragmented_last}
use Rattle.asn1_x691_writers.proofs.long_texts.put_text_fragments.Goals as goal

pub loop-left-init : goal.loop-left-init
loop-left-init c =
    fragmented_first c.args.alphabet.now c.args.table.now (bits c.args.source.now) c.args.text c.args.octets.now c.args.at
    (omega arith) c.requires.within

pub put_text_fragment-next-requires-clause-within : goal.put_text_fragment-next-requires-clause-within
put_text_fragment-next-requires-clause-within c =
    let list = bits c.args.source.now in
    let few : length list < 2 ^ 64 = omega (arith, length-bits c.args.source.now, c.requires.source) in
    let parts = c.split_characters.ensures.characters c.args.table.now list few in
    (in_both c.args.alphabet.now.ranges.now (characters_of c.args.table.now list c.split_characters.result.0)
    (characters_of c.args.table.now list c.split_characters.result.1)
    (subst (λ (l : List ℕ). AreIn c.args.alphabet.now.ranges.now l) parts c.loop-left.invariant.within)).0

pub loop-left-preserved : goal.loop-left-preserved
loop-left-preserved c =
    let list = bits c.args.source.now in
    let few : length list < 2 ^ 64 = omega (arith, length-bits c.args.source.now, c.requires.source) in
    fragmented_next c.args.alphabet.now c.args.table.now list c.args.text c.args.octets.now c.args.at c.loop-left.octets
    c.put_text_fragment-next.new.octets c.loop-left.next c.put_text_fragment-next.result c.loop-left.left c.split_characters.result.0
    c.split_characters.result.1 c.loop-left-test.true c.split_characters.ensures.first c.split_characters.ensures.others
    (c.split_characters.ensures.characters c.args.table.now list few) c.loop-left.invariant c.put_text_fragment-next.ensures

pub returns : goal.returns
returns c node =
    fragmented_last c.args.alphabet.now c.args.table.now (bits c.args.source.now) c.args.text c.args.octets.now c.args.at
    c.loop-left.octets c.put_last_characters.new.octets c.loop-left.next c.put_last_characters.result node c.loop-left.left
    c.loop-left.invariant c.put_last_characters.ensures
