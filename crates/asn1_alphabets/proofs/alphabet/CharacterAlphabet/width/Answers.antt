use Rattle.std.proofs.Common.{rules}
use Rattle.asn1_alphabets.specs.Laws.AlphabetViewLaws.{codes_fit}
use Rattle.asn1_alphabets.proofs.alphabet.CharacterAlphabet.width.Goals as goal

pub returns-clause-codes : goal.returns-clause-codes
returns-clause-codes c = codes_fit c.args.self.now

pub returns-clause-value : goal.returns-clause-value
returns-clause-value c = search rules

pub returns-clause-bound : goal.returns-clause-bound
returns-clause-bound c = search rules
