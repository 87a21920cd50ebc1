use Rattle.asn1_alphabets.specs.AlphabetView.{alphabet_of}
use Rattle.asn1_alphabets.specs.Laws.AlphabetLaws.{missing_has_none}
use Rattle.asn1_alphabets.specs.Laws.AlphabetViewLaws.{codes_fit}
use Rattle.asn1_alphabets.proofs.alphabet.CharacterAlphabet.encode_counted.Goals as goal

pub returns-in-Some-clause-code : goal.returns-in-Some-clause-code
returns-in-Some-clause-code c =
    let code = c.in-Some.ensures.code in (code, codes_fit c.args.self.now c.args.character c.in-Some.code code)

pub returns-in-None-clause-code : goal.returns-in-None-clause-code
returns-in-None-clause-code c = (
  c.missing.ensures,
  λ k code. missing_has_none (alphabet_of c.args.self.now) c.args.character k c.in-None.ensures.code code,
)
