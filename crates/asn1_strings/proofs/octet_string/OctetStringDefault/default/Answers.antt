use Rattle.std.proofs.Common.{rules}
use Rattle.asn1_strings.proofs.octet_string.OctetStringDefault.default.Goals as goal

pub returns : goal.returns
returns c = search rules
