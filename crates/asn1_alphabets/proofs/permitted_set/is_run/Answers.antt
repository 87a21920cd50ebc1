use Rattle.std.proofs.Common.{rules, arith}
use Rattle.std.proofs.lemmas.Bool.Decides.{nat_tests}
use Rattle.asn1_alphabets.proofs.RunLemmas.{run_from_places, run_entry, told_true}
use Rattle.asn1_alphabets.proofs.permitted_set.is_run.Goals as goal

pub returns : goal.returns
returns c = (
  λ told. run_from_places c.args.set.now _ (grind (arith, nat_tests)) (omega arith)
      (λ k lt. c.loop-character.invariant.run told k (omega arith)),
  λ run. told_true c.loop-character.run (λ none.
      let gap = c.loop-character.invariant.gap none in
      gap.2 (run_entry c.args.set.now gap.0 run (let lt = gap.1 in omega arith))),
)

pub loop-character-preserved : goal.loop-character-preserved
loop-character-preserved c = search rules

pub returns-then-first-set : goal.returns-then-first-set
returns-then-first-set c = search rules
