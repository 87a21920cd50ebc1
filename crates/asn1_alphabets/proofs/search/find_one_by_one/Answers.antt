use Rattle.std.proofs.Common.{arith, rules}
use Rattle.std.proofs.lemmas.Grind.{common_steps}
use Rattle.asn1_alphabets.proofs.search.find_one_by_one.Goals as goal

pub returns-then-entry-character-clause-each_look_counts : goal.returns-then-entry-character-clause-each_look_counts
returns-then-entry-character-clause-each_look_counts c = search rules

pub loop-i-preserved : goal.loop-i-preserved
loop-i-preserved c = grind (arith, common_steps)
