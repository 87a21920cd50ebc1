use Rattle.std.proofs.Common.{rules}
use Rattle.asn1_number.proofs.integer.Integer.from_signed_octets.Goals as goal

pub returns-then-octets-le16-clause-value : goal.returns-then-octets-le16-clause-value
returns-then-octets-le16-clause-value c = search rules
