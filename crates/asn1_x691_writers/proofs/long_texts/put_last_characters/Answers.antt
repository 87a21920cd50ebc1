use Rattle.std.proofs.Common.{ℕ, suc, ◌^◌, ◌<◌, ◌++◌, List, length, subst, arith}
use Rattle.asn1_bits.specs.Bits.{bits}
use Rattle.asn1_bits.specs.Laws.DigitLaws.{length-bits}
use Rattle.asn1_schema.specs.CharactersOfParts.{characters_of}
use Rattle.asn1_x691.specs.Characters.{characters}
use Rattle.asn1_x691.specs.Fragments.{all_units}
use Rattle.asn1_x691_writers.specs.Written.{IsWritten}
use Rattle.asn1_x691_writers.specs.StringSteps.{few_units, few_last, part_units}
use Rattle.asn1_x691_writers.specs.Texts.{AreIn}
use Rattle.asn1_x691_writers.specs.TextSteps.{in_both}
use Rattle.asn1_x691_writers.proofs.TextLemmas.{same_pair}
use Rattle.asn1_x691_writers.proofs.long_texts.put_last_characters.Goals as goal

pub returns-then-times-eq0 : goal.returns-then-times-eq0
returns-then-times-eq0 c node more =
    let a = c.args.alphabet.now in
    few_units (characters a.is_aligned a.ranges.now node) (λ x y. x ++ y) a.is_aligned node c.args.text.count
    (characters_of c.args.table.now (bits c.args.source.now) c.args.text) c.args.octets.now c.put_few_characters.new.octets c.args.at
    c.put_few_characters.result (c.put_few_characters.ensures node) more (omega (arith, c.if-times-eq0.true))

pub put_text_fragment-after-requires-clause-within : goal.put_text_fragment-after-requires-clause-within
put_text_fragment-after-requires-clause-within c =
    let list = bits c.args.source.now in
    let few : length list < 2 ^ 64 = omega (arith, length-bits c.args.source.now, c.requires.source) in
    let parts = c.split_characters.ensures.characters c.args.table.now list few in
    (in_both c.args.alphabet.now.ranges.now (characters_of c.args.table.now list c.split_characters.result.0)
    (characters_of c.args.table.now list c.split_characters.result.1)
    (subst (λ (l : List ℕ). AreIn c.args.alphabet.now.ranges.now l) parts c.requires.within)).0

pub put_few_characters-requires-2-clause-within : goal.put_few_characters-requires-2-clause-within
put_few_characters-requires-2-clause-within c =
    let list = bits c.args.source.now in
    let few : length list < 2 ^ 64 = omega (arith, length-bits c.args.source.now, c.requires.source) in
    let parts = c.split_characters.ensures.characters c.args.table.now list few in
    (in_both c.args.alphabet.now.ranges.now (characters_of c.args.table.now list c.split_characters.result.0)
    (characters_of c.args.table.now list c.split_characters.result.1)
    (subst (λ (l : List ℕ). AreIn c.args.alphabet.now.ranges.now l) parts c.requires.within)).1

pub returns : goal.returns
returns c node more =
    let a = c.args.alphabet.now in
    let aligned = a.is_aligned in
    let list = bits c.args.source.now in
    let few : length list < 2 ^ 64 = omega (arith, length-bits c.args.source.now, c.requires.source) in
    let first = c.split_characters.result.0 in
    let others = c.split_characters.result.1 in
    let xs = characters_of c.args.table.now list first in
    let ys = characters_of c.args.table.now list others in
    let U = characters aligned a.ranges.now node in
    let was = c.args.octets.now in
    let mid = c.put_text_fragment-after.new.octets in
    let now = c.put_few_characters-2.new.octets in
    let at = c.put_text_fragment-after.result in
    let new = c.put_few_characters-2.result in
    let size = c.split_characters.ensures.first in
    let rest = c.split_characters.ensures.others in
    subst (λ (v : ℕ × List ℕ). IsWritten aligned (all_units U (λ x y. x ++ y) aligned node (suc more)) v was c.args.at now new)
    (same_pair first.count others.count c.args.text.count xs ys (characters_of c.args.table.now list c.args.text)
    (omega (arith, size, rest)) (c.split_characters.ensures.characters c.args.table.now list few))
    (part_units U (λ x y. x ++ y) aligned node first.count xs was mid now c.args.at at new (c.put_text_fragment-after.ensures node)
    others.count ys more (omega (arith, size, c.if-times-eq0.false)) (omega (arith, size, c.requires.few))
    (few_last U (λ x y. x ++ y) aligned node others.count ys mid now at new (c.put_few_characters-2.ensures node)
    (omega (arith, size, rest))))
