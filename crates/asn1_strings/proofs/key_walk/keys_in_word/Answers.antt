use Rattle.std.proofs.Common.{rules}
use Rattle.asn1_strings.proofs.key_walk.keys_in_word.Goals as goal

pub returns-else-most-ge8-clause-most : goal.returns-else-most-ge8-clause-most
returns-else-most-ge8-clause-most c = search rules
