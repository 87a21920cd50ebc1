use Rattle.std.proofs.Common.{sym, ◌∙◌, arith, map, below_more}
use Rattle.asn1_characters.specs.Sets.{base_set}
use Rattle.asn1_strings.proofs.StringLemmas.{string_of_wrong, string_of_right, all_right}
use Rattle.asn1_strings.specs.Pieces.{pieces, unsigned}
use Rattle.asn1_strings.proofs.static_permitted_alphabet.string_of_pieces.Goals as goal

pub returns-then-not-contains_char : goal.returns-then-not-contains_char
returns-then-not-contains_char g c =
    let wrong =
    string_of_wrong g.S.HasCharacterSet.CHARACTER_SET_NAME (map unsigned (pieces c.args.width c.args.octets.now))
    c.loop-i.i (omega arith) c.loop-i.invariant
    (rw (← c.character-character.ensures) (sym c.contains_char.ensures ∙ c.if-not-contains_char.true)) in
    rw c.invalid_restricted_string.ensures (rw c.character-character.ensures wrong)

pub loop-i-preserved : goal.loop-i-preserved
loop-i-preserved g c =
    below_more _ _ c.loop-i.invariant
    (rw (← c.character-character.ensures) (sym c.contains_char.ensures ∙ c.if-not-contains_char.false))

pub copy_of_pieces-requires : goal.copy_of_pieces-requires
copy_of_pieces-requires g c =
    all_right (base_set g.S.HasCharacterSet.CHARACTER_SET_NAME) (map unsigned (pieces c.args.width c.args.octets.now))
    (λ k h. c.loop-i.invariant k (omega arith))

pub returns : goal.returns
returns g c =
    rw (string_of_right g.S.HasCharacterSet.CHARACTER_SET_NAME (map unsigned (pieces c.args.width c.args.octets.now))
    (λ k h. c.loop-i.invariant k (omega arith))) c.copy_of_pieces.ensures
