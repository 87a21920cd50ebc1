use Rattle.std.proofs.Common.{rules}
use Rattle.asn1_bits.proofs.octets.OctetsPartialEq.eq.Goals as goal

pub returns : goal.returns
returns c = search rules
