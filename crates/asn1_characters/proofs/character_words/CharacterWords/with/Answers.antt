use Rattle.std.proofs.Common.{◌≡◌, ◌*◌, ◌%◌, ◌^◌, arith}
use Rattle.asn1_characters.proofs.WordLemmas.{words_with, one_bit}
use Rattle.asn1_characters.proofs.character_words.CharacterWords.with.Goals as goal

pub returns : goal.returns
returns c =
    λ x lt.
    let bit : 1 * 2 ^ (c.args.character % 64) % 18446744073709551616 ≡ 2 ^ (c.args.character % 64) =
    one_bit (c.args.character % 64) (omega arith) in
    rw bit (words_with c.args.self.words c.args.character x (omega (arith, c.args.self.four)))
