use Rattle.std.proofs.Common.{◌<◌, ℕ}
use Rattle.asn1_c.specs.Sets.{character_at, IsSpellable}
use Rattle.asn1_c.proofs.string_utf8.first_unspelled.Given as goal

abbrev pub invariant-loop-i : goal.invariant-loop-i
invariant-loop-i l = (j : ℕ) → j < l.i → IsSpellable l.name (character_at l.name l.octets j)
