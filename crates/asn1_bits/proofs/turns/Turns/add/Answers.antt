use Rattle.std.proofs.Common.{rules}
use Rattle.asn1_bits.proofs.turns.Turns.add.Goals as goal

pub returns : goal.returns
returns c = search rules
