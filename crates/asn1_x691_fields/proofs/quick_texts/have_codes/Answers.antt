use Rattle.std.proofs.Common.{ℕ, ◌+◌, ◌*◌, ◌^◌, ◌<◌, ◌≤◌, List, length, drop, sym, ◌∙◌, subst, arith}
use Rattle.std.specs.List.{AllByRecursion}
use Rattle.asn1_schema.specs.CharactersOfParts.{numbers_in}
use Rattle.asn1_x691_fields.proofs.CodeLemmas.{all_codes}
use Rattle.asn1_x691_fields.specs.WindowSteps.{field_below}
use Rattle.asn1_x691_fields.proofs.WordLemmas.{word_is}
use Rattle.asn1_x691_fields.proofs.quick_texts.have_codes.Goals as goal

pub are_quickly_in-requires-clause-below : goal.are_quickly_in-requires-clause-below
are_quickly_in-requires-clause-below c =
    let w = c.args.alphabet.now.width * c.args.count in
    subst (λ (n : ℕ). n < 2 ^ w) (sym c.number_in-word.ensures)
    (field_below c.args.window.word (c.args.window.shift + c.args.skipped) w (omega (arith, c.requires.fits)))

pub returns-in-Some : goal.returns-in-Some
returns-in-Some c list at is within e =
    let a = c.args.alphabet.now in
    let v = c.in-Some.interval in
    let w = a.width in
    let count = c.args.count in
    let P = λ (n : ℕ). (v.least ≤ n) × (n ≤ v.least + v.range) in
    let place = at + c.args.skipped in
    let inside : place + w * count ≤ length list = omega (arith, within) in
    let word = c.number_in-word.ensures ∙ is.numbers c.args.skipped (w * count) (omega (arith, c.requires.fits)) in
    all_codes a P (λ i h. c.in-Some.ensures.codes i h.0 h.1) (numbers_in w count (drop place list))
    (subst (λ (ns : List ℕ). AllByRecursion P ns) (word_is w count place c.number_in-word.result list inside word) (c.are_quickly_in.ensures e))
