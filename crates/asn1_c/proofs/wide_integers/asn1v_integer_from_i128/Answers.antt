use Rattle.std.proofs.Common.{rules}
use Rattle.asn1_c.proofs.wide_integers.asn1v_integer_from_i128.Goals as goal

pub returns-clause-written : goal.returns-clause-written
returns-clause-written c = search rules

pub returns-clause-count : goal.returns-clause-count
returns-clause-count c = search rules
