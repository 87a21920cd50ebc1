use Rattle.std.proofs.Common.{ℕ, ◌^◌, ◌<◌, ◌≤◌, List, length, sym, subst, arith}
use Rattle.std.proofs.Math.Pow.{pow_mono}
use Rattle.asn1_bits.specs.Bits.{bits}
use Rattle.asn1_bits.specs.Laws.DigitLaws.{length-bits}
use Rattle.asn1_x690.specs.Leaves.{AreIn, IsIn}
use Rattle.asn1_x690_writers.specs.Texts.{AreWithin}
use Rattle.asn1_x690_writers.specs.TextSteps.{first_code, first_within, first_is_in, not_cut, is_character}
use Rattle.asn1_x690_writers.proofs.texts.are_all_permitted.Goals as goal

pub returns-then-character-width-clause-no : goal.returns-then-character-width-clause-no
returns-then-character-width-clause-no c e p q =
    let a = c.args in
    let l = c.loop-left in
    let b = first_within a.table.now (bits a.source.now) l.left a.width c.loop-left-test.true (l.invariant.others_below q) in
    let up : 2 ^ a.width ≤ 2 ^ 32 = pow_mono c.requires.few in
    omega (arith, b, up, c.first_character-character.ensures, c.if-character-width.true)

pub returns-then-not-is_in-clause-no : goal.returns-then-not-is_in-clause-no
returns-then-not-is_in-clause-no c e p q =
    let a = c.args in
    let l = c.loop-left in
    let list = bits a.source.now in
    let b = first_within a.table.now list l.left a.width c.loop-left-test.true (l.invariant.others_below q) in
    let i = first_is_in a.table.now list l.left a.ranges.now c.loop-left-test.true (l.invariant.others_in p) in
    let same = not_cut (first_code a.table.now list l.left) c.first_character-character.result a.width c.requires.few
    c.first_character-character.ensures b in
    c.is_in.ensures.no c.if-not-is_in.true (subst (λ (n : ℕ). IsIn a.ranges.now n) (sym same) i)

pub loop-left-preserved : goal.loop-left-preserved
loop-left-preserved c =
    let a = c.args in
    let l = c.loop-left in
    let list = bits a.source.now in
    let few : length list < 2 ^ 64 = omega (arith, length-bits a.source.now, c.requires.source) in
    let apart = c.other_characters-left.ensures.characters a.table.now list few in
    let below : c.first_character-character.result < 2 ^ a.width = omega (arith, c.if-character-width.false) in
    let same = is_character (first_code a.table.now list l.left) c.first_character-character.result a.width c.requires.few
    c.first_character-character.ensures below in
    let i = subst (λ (n : ℕ). IsIn a.ranges.now n) same (c.is_in.ensures.yes c.if-not-is_in.false) in
    let b = subst (λ (n : ℕ). n < 2 ^ a.width) same below in
    record {
      alphabet = λ p. l.invariant.alphabet (subst (λ (xs : List ℕ). AreIn a.ranges.now xs) (sym apart) (i, p));
      below = λ p. l.invariant.below (subst (λ (xs : List ℕ). AreWithin a.width xs) (sym apart) (b, p));
      others_in = λ p. (subst (λ (xs : List ℕ). AreIn a.ranges.now xs) apart (l.invariant.others_in p)).1;
      others_below = λ p. (subst (λ (xs : List ℕ). AreWithin a.width xs) apart (l.invariant.others_below p)).1;
    }
