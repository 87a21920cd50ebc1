use Rattle.std.proofs.Common.{◌≡◌, ℕ, suc, ◌+◌, ◌-◌, ◌<◌, ◌^◌, ◌++◌, List, length, get_or, refl, ◌∙◌, ap, arith}
use Rattle.std.proofs.lemmas.List.{get_or-append-add}
use Rattle.asn1_bits.specs.Bits.{bits, number}
use Rattle.asn1_bits.specs.Laws.DigitLaws.{length-bits}
use Rattle.asn1_schema.specs.CharactersOfParts.{character_of, characters_of}
use Rattle.asn1_schema.specs.PiecesOfParts.{bits_at}
use Rattle.asn1_x691_writers.specs.TextSteps.{length_text, first_apart}
use Rattle.asn1_x691_writers.proofs.characters.PartCharactersNumberSource.number.Goals as goal

pub split_characters-requires : goal.split_characters-requires
split_characters-requires c =
    let p = c.args.self.now in
    let e = length_text p.table.now (bits p.source.now) p.text in
    omega (arith, e, c.requires)

pub returns : goal.returns
returns c =
    let p = c.args.self.now in
    let table = p.table.now in
    let list = bits p.source.now in
    let parts = c.split_characters.result in
    let size = length_text table list p.text in
    let front = length_text table list parts.0 in
    let few : length list < 2 ^ 64 = omega (arith, length-bits p.source.now, p.size) in
    let apart = c.split_characters.ensures.characters table list few in
    let one : parts.1.count ≡ suc (parts.1.count - 1) = omega (arith, c.split_characters.ensures.others, c.requires, size) in
    let here : c.args.index ≡ length (characters_of table list parts.0) + 0 = omega (arith, front, c.split_characters.ensures.first) in
    let first : get_or (characters_of table list p.text) c.args.index 0
    ≡ character_of table parts.1.codes (number (bits_at list parts.1.at parts.1.width)) =
    ap (λ (l : List ℕ). get_or l c.args.index 0) apart
    ∙ ap (λ (i : ℕ). get_or (characters_of table list parts.0 ++ characters_of table list parts.1) i 0) here
    ∙ get_or-append-add (characters_of table list parts.0) (characters_of table list parts.1) 0 0
    ∙ ap (λ (l : List ℕ). get_or l 0 0)
    (first_apart table list parts.1 (parts.1.count - 1) (parts.1.at + parts.1.width) one refl) in
    omega (arith, first, c.first_character.ensures)
