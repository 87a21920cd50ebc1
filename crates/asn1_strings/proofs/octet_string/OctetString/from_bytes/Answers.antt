use Rattle.std.proofs.Common.{rules}
use Rattle.asn1_strings.proofs.octet_string.OctetString.from_bytes.Goals as goal

pub returns : goal.returns
returns c = search rules
