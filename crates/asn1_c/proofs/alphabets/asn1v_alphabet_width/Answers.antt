use Rattle.std.proofs.Common.{rules}
use Rattle.asn1_c.proofs.alphabets.asn1v_alphabet_width.Goals as goal

pub returns-clause-width : goal.returns-clause-width
returns-clause-width c = search rules
