use Rattle.std.proofs.Common.{rules}
use Rattle.std.proofs.lemmas.Slice.Eq.{slice_eq-Decides}
use Rattle.asn1_x691_writers.proofs.copied.are_same.Goals as goal

pub returns : goal.returns
returns c e = (slice_eq-Decides (λ a b. search rules) c.args.some.now c.args.others.now c.eq.result c.eq.ensures).0 e
