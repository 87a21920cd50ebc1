use Rattle.std.proofs.Common.{rules}
use Rattle.asn1_strings.proofs.octet_string.OctetString.from_vec.Goals as goal

pub returns-in-Err-clause-back : goal.returns-in-Err-clause-back
returns-in-Err-clause-back c = search rules
