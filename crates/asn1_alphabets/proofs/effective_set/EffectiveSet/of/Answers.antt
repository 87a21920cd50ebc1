use Rattle.asn1_characters.specs.Laws.TableLaws.{few_in_base}
use Rattle.asn1_alphabets.proofs.effective_set.EffectiveSet.of.Goals as goal

pub returns-else-align-width-clause-few : goal.returns-else-align-width-clause-few
returns-else-align-width-clause-few c = few_in_base c.args.name
