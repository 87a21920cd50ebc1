use Rattle.std.proofs.Common.{◌∙◌, subst, sym}
use Rattle.asn1_alphabets.specs.Alphabet.{IsCode}
use Rattle.asn1_alphabets.specs.AlphabetView.{alphabet_of}
use Rattle.asn1_c.proofs.CharacterFieldLemmas.{character_read, character_wrong, character_short}
use Rattle.asn1_c.proofs.character_fields.read_character.Goals as goal

pub returns-in-Ok-decode-clause-read : goal.returns-in-Ok-decode-clause-read
returns-in-Ok-decode-clause-read c =
    let a = alphabet_of c.args.alphabet.now in
    character_read c.args.octets.now c.args.at c.read_wide-code.result c.width-width.result a _
    c.width-width.ensures.value c.in-Ok.ensures.enough
    c.in-Ok.ensures.bits.0 c.in-Ok.ensures.bits.1 c.from.ensures c.read_wide-code.ensures.digits
    (subst (λ x. IsCode a x c.read_wide-code.result) (sym c.from-in-Ok-decode.ensures) c.in-Ok-decode.ensures.character)

pub returns-in-Err-decode-clause-refused : goal.returns-in-Err-decode-clause-refused
returns-in-Err-decode-clause-refused c =
    let a = alphabet_of c.args.alphabet.now in
    character_wrong c.args.octets.now c.args.at c.read_wide-code.result c.width-width.result a c.with.result
    c.width-width.ensures.value c.in-Ok.ensures.enough
    c.with.ensures.code (c.with.ensures.number ∙ c.from-in-Err-decode.ensures) c.read_wide-code.ensures.number
    c.in-Err-decode.ensures.character.1

pub returns-in-Err-clause-refused : goal.returns-in-Err-clause-refused
returns-in-Err-clause-refused c =
    character_short c.args.octets.now c.args.at c.width-width.result (alphabet_of c.args.alphabet.now) c.in-Err.refusal
    c.width-width.ensures.value c.requires.within
    c.in-Err.ensures.code.0 c.in-Err.ensures.short.0 c.in-Err.ensures.short.1
