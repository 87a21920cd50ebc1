use Rattle.asn1_x690_writers.specs.HeaderSteps.{moved}
use Rattle.asn1_x690_writers.proofs.lengths.move_contents.Goals as goal

pub returns-then-from-to : goal.returns-then-from-to
returns-then-from-to c =
    let a = c.args in
    moved a.octets.now c.copy_within.new.self a.from a.to a.count c.requires.from c.requires.to c.copy_within.ensures.after
