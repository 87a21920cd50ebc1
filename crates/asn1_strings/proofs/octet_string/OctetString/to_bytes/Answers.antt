use Rattle.std.proofs.Common.{rules}
use Rattle.asn1_strings.proofs.octet_string.OctetString.to_bytes.Goals as goal

pub returns-clause-octets : goal.returns-clause-octets
returns-clause-octets c = search rules
