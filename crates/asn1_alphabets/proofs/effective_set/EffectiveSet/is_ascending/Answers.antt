use Rattle.asn1_alphabets.specs.EffectiveSets.{characters_of}
use Rattle.asn1_alphabets.proofs.RunLemmas.{run_rises}
use Rattle.asn1_alphabets.proofs.effective_set.EffectiveSet.is_ascending.Goals as goal

pub returns-then-run-clause-ascends : goal.returns-then-run-clause-ascends
returns-then-run-clause-ascends c = λ told. run_rises (characters_of c.args.self) (c.requires told)
