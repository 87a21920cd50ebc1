use Rattle.std.proofs.Common.{rules}
use Rattle.asn1_c.proofs.alphabets.asn1v_alphabet_encode.Goals as goal

pub returns-in-Ok-clause-encoded : goal.returns-in-Ok-clause-encoded
returns-in-Ok-clause-encoded c = search rules

pub returns-in-Err-clause-missing : goal.returns-in-Err-clause-missing
returns-in-Err-clause-missing c = search rules
