use Rattle.std.proofs.Common.{arith, rules}
use Rattle.std.proofs.lemmas.Grind.{common_steps}
use Rattle.asn1_c.proofs.utf8_string.asn1v_string_from_utf8.Goals as goal

pub returns-then-length-room-clause-count : goal.returns-then-length-room-clause-count
returns-then-length-room-clause-count c = search rules

pub returns-then-length-room-clause-room : goal.returns-then-length-room-clause-room
returns-then-length-room-clause-room c = search rules

pub returns-clause-written : goal.returns-clause-written
returns-clause-written c = grind (arith, common_steps)

pub returns-clause-rest : goal.returns-clause-rest
returns-clause-rest c = grind (arith, common_steps)

pub returns-clause-count : goal.returns-clause-count
returns-clause-count c = search rules
