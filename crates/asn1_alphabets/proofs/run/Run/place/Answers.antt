use Rattle.asn1_alphabets.proofs.RunLemmas.{run_place_at, run_far_at}
use Rattle.asn1_alphabets.proofs.run.Run.place.Goals as goal

pub returns-then-distance-self-clause-place : goal.returns-then-distance-self-clause-place
returns-then-distance-self-clause-place c =
    run_place_at c.args.self.first c.args.self.count c.args.character c.args.self.some c.args.self.ends
    c.ranges.character.fits c.if-distance-self.true

pub returns-else-distance-self-clause-place : goal.returns-else-distance-self-clause-place
returns-else-distance-self-clause-place c =
    run_far_at c.args.self.first c.args.self.count c.args.character c.args.self.some c.args.self.ends
    c.ranges.character.fits c.if-distance-self.false
