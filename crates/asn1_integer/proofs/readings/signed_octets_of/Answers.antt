use Rattle.std.proofs.Common.{rules}
use Rattle.asn1_integer.proofs.readings.signed_octets_of.Goals as goal

pub returns-in-Some : goal.returns-in-Some
returns-in-Some c = search rules
