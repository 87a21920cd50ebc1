use Rattle.std.proofs.Common.{ℕ, ◌^◌, ◌<◌, List, length, sym, subst, arith}
use Rattle.asn1_bits.specs.Bits.{bits, number}
use Rattle.asn1_bits.specs.Laws.DigitLaws.{length-bits}
use Rattle.asn1_schema.specs.CharactersOfParts.{character_of}
use Rattle.asn1_schema.specs.PiecesOfParts.{bits_at}
use Rattle.asn1_x691.specs.Alphabets.{IsIn}
use Rattle.asn1_x691_writers.specs.Texts.{AreIn}
use Rattle.asn1_x691_writers.specs.TextSteps.{first_in, none_left}
use Rattle.asn1_x691_writers.specs.CopiedSteps.{copied_in}
use Rattle.asn1_x691_writers.proofs.CharacterLemmas.{not_cut, is_character}
use Rattle.asn1_x691_writers.proofs.characters.are_in.Goals as goal

pub returns-then-not-is_in-clause-no : goal.returns-then-not-is_in-clause-no
returns-then-not-is_in-clause-no c e p =
    let a = c.args.alphabet.now in
    let list = bits c.args.source.now in
    let left = c.loop-left.left in
    let q = first_in c.args.table.now list left a.ranges.now c.loop-left-test.true (c.loop-left.invariant.not_before p) in
    let same = not_cut a.ranges.now (character_of c.args.table.now left.codes (number (bits_at list left.at left.width)))
    c.first_character-character.result c.requires.is.small c.first_character-character.ensures q in
    c.is_in.ensures.no c.if-not-is_in.true (subst (λ (n : ℕ). IsIn a.ranges.now n) (sym same) q)

pub loop-left-preserved : goal.loop-left-preserved
loop-left-preserved c =
    let a = c.args.alphabet.now in
    let list = bits c.args.source.now in
    let left = c.loop-left.left in
    let few : length list < 2 ^ 64 = omega (arith, length-bits c.args.source.now, c.requires.source) in
    let apart = c.other_characters-left.ensures.characters c.args.table.now list few in
    let within = c.is_in.ensures.yes c.if-not-is_in.false in
    let same = is_character a.ranges.now (character_of c.args.table.now left.codes (number (bits_at list left.at left.width)))
    c.first_character-character.result c.requires.is.small c.first_character-character.ensures within in
    record {
      others = λ p.
          c.loop-left.invariant.others
          (subst (λ (l : List ℕ). AreIn a.ranges.now l) (sym apart) (subst (λ (n : ℕ). IsIn a.ranges.now n) same within, p));
      not_before = λ p. (subst (λ (l : List ℕ). AreIn a.ranges.now l) apart (c.loop-left.invariant.not_before p)).1;
    }

pub returns-clause-yes : goal.returns-clause-yes
returns-clause-yes c e =
    let none = none_left c.args.table.now (bits c.args.source.now) c.loop-left.left (omega (arith, c.loop-left-test.false)) in
    c.loop-left.invariant.others (subst (λ (l : List ℕ). AreIn c.args.alphabet.now.ranges.now l) (sym none) tt)

pub returns-then-is_copied-clause-yes : goal.returns-then-is_copied-clause-yes
returns-then-is_copied-clause-yes c e =
    copied_in c.args.alphabet.now c.args.source.now c.args.table.now c.args.text (c.requires.copied c.if-is_copied.true)
