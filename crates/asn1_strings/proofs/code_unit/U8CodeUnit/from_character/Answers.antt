use Rattle.std.proofs.Common.{rules}
use Rattle.asn1_strings.proofs.code_unit.U8CodeUnit.from_character.Goals as goal

pub returns : goal.returns
returns c = search rules
