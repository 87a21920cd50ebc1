use Rattle.std.proofs.Common.{rules}
use Rattle.asn1_c.proofs.string_utf8.asn1v_string_to_utf8.Goals as goal

pub returns-in-Some-first_unspelled-clause-place : goal.returns-in-Some-first_unspelled-clause-place
returns-in-Some-first_unspelled-clause-place c = search rules
