use Rattle.std.proofs.Common.{sym, arith}
use Rattle.std.specs.List.{range_with_len}
use Rattle.std.proofs.lemmas.Option.{slice_get_past}
use Rattle.std.proofs.lemmas.List.FromFn.{length-range_with_len}
use Rattle.asn1_alphabets.proofs.RunLemmas.{range_at}
use Rattle.asn1_alphabets.proofs.run.Run.character.Goals as goal

pub returns-then-place-self : goal.returns-then-place-self
returns-then-place-self c = sym (range_at c.args.self.first c.args.self.count c.args.place c.if-place-self.true)

pub returns-else-place-self : goal.returns-else-place-self
returns-else-place-self c =
    let long = length-range_with_len c.args.self.first c.args.self.count in
    sym (slice_get_past (range_with_len c.args.self.first c.args.self.count) c.args.place (omega arith))
