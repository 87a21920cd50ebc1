use Rattle.std.proofs.Common.{rules}
use Rattle.asn1_strings.proofs.chars.CharsIterator.next.Goals as goal

pub returns-clause-steps : goal.returns-clause-steps
returns-clause-steps c = search rules
