use Rattle.std.proofs.Common.{rules}
use Rattle.asn1_bits.proofs.bit_appender.BitAppender.push_octets.Goals as goal

pub returns-clause-written : goal.returns-clause-written
returns-clause-written c = search rules

pub returns-clause-room : goal.returns-clause-room
returns-clause-room c = search rules

pub returns-clause-at_least : goal.returns-clause-at_least
returns-clause-at_least c = search rules
