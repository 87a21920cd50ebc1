use Rattle.std.proofs.Common.{rules}
use Rattle.asn1_bits.proofs.turns.Turns.tick.Goals as goal

pub returns : goal.returns
returns c = search rules
