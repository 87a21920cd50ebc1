use Rattle.asn1_alphabets.proofs.RunLemmas.{run_ends}
use Rattle.asn1_alphabets.proofs.permitted_set.largest_of_run.Goals as goal

pub returns : goal.returns
returns c = run_ends c.args.set.now c.requires
