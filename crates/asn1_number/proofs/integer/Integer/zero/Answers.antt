use Rattle.std.proofs.Common.{rules}
use Rattle.asn1_number.proofs.integer.Integer.zero.Goals as goal

pub returns : goal.returns
returns c = search rules
