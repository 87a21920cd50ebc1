use Rattle.std.proofs.Common.{rules}
use Rattle.asn1_c.proofs.octets_at.asn1v_octets_at.Goals as goal

pub returns-clause-copied : goal.returns-clause-copied
returns-clause-copied c = search rules
