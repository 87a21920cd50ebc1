use Rattle.std.proofs.Common.{rules}
use Rattle.asn1_number.proofs.values.signed_front.Goals as goal

pub returns-then-octets-eq8 : goal.returns-then-octets-eq8
returns-then-octets-eq8 c = search rules
