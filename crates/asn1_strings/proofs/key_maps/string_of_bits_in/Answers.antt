use Rattle.std.proofs.Common.{rules}
use Rattle.asn1_strings.proofs.key_maps.string_of_bits_in.Goals as goal

pub returns-then-codes_of-largest : goal.returns-then-codes_of-largest
returns-then-codes_of-largest c = search rules

pub returns-then-width-eq0 : goal.returns-then-width-eq0
returns-then-width-eq0 c = search rules

pub returns-else-codes_of-largest : goal.returns-else-codes_of-largest
returns-else-codes_of-largest c = search rules
