use Rattle.std.proofs.Common.{rules}
use Rattle.asn1_strings.proofs.static_permitted_alphabet.StaticPermittedAlphabet.try_from_bits.Goals as goal

pub invariant_of-string_of_numbers : goal.invariant_of-string_of_numbers
invariant_of-string_of_numbers c = search rules

pub returns-then-width-eq0 : goal.returns-then-width-eq0
returns-then-width-eq0 c = search rules

pub returns-then-width-own : goal.returns-then-width-own
returns-then-width-own c = search rules
