use Rattle.std.proofs.Common.{rules}
use Rattle.asn1_bits.proofs.kernels.put_view.Goals as goal

pub returns-clause-bits : goal.returns-clause-bits
returns-clause-bits c = search rules

pub returns-clause-each_turn_places : goal.returns-clause-each_turn_places
returns-clause-each_turn_places c = search rules
