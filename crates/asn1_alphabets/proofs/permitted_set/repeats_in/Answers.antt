use Rattle.std.proofs.Common.{◌≡◌, true, false, sym, arith}
use Rattle.std.proofs.lemmas.Grind.{common_steps}
use Rattle.asn1_alphabets.proofs.RepeatLemmas.{has_repeat, repeat_pair, once_pairs}
use Rattle.asn1_alphabets.proofs.permitted_set.repeats_in.Goals as goal

pub returns-then-contains : goal.returns-then-contains
returns-then-contains c = let twice : true ≡ has_repeat c.args.set.now =
    grind (arith, common_steps) in repeat_pair c.args.set.now (sym twice)

pub returns : goal.returns
returns c = let once : false ≡ has_repeat c.args.set.now =
    grind (arith, common_steps) in once_pairs c.args.set.now (sym once)
