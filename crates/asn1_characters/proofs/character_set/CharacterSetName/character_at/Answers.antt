use Rattle.std.proofs.Common.{sym, arith}
use Rattle.asn1_characters.proofs.PlaceLemmas.{space_at, digit_at, numeric_past}
use Rattle.asn1_characters.proofs.character_set.CharacterSetName.character_at.Goals as goal

pub returns-in-0 : goal.returns-in-0
returns-in-0 c = rw (c.in-Numeric.is, c.in-0.is) (sym space_at)

pub returns-in-1-to-10 : goal.returns-in-1-to-10
returns-in-1-to-10 c = rw c.in-Numeric.is (sym (digit_at c.args.place (omega arith) (omega arith)))

pub returns-in_default-place : goal.returns-in_default-place
returns-in_default-place c = rw c.in-Numeric.is (sym (numeric_past c.args.place (omega arith)))
