use Rattle.std.proofs.Common.{◌+◌}
use Rattle.asn1_bits.proofs.turns.Turns.add.Given as goal

abbrev pub ghost-set : goal.ghost-set
ghost-set a = a.self.now.count + a._other.now.count
