use Rattle.std.proofs.Common.{rules}
use Rattle.asn1_strings.proofs.octet_string.OctetString.into_bytes.Goals as goal

pub returns : goal.returns
returns c = search rules
