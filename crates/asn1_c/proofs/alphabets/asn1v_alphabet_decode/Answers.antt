use Rattle.std.proofs.Common.{rules}
use Rattle.asn1_c.proofs.alphabets.asn1v_alphabet_decode.Goals as goal

pub returns-in-Ok-clause-decoded : goal.returns-in-Ok-clause-decoded
returns-in-Ok-clause-decoded c = search rules

pub returns-in-Err-clause-missing : goal.returns-in-Err-clause-missing
returns-in-Err-clause-missing c = search rules
