use Rattle.std.proofs.Common.{rules}
use Rattle.asn1_bits.proofs.octets.Octets.as_ref.Goals as goal

pub returns-clause-list : goal.returns-clause-list
returns-clause-list c = search rules

pub returns-clause-octets : goal.returns-clause-octets
returns-clause-octets c = search rules
