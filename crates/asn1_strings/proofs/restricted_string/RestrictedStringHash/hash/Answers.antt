use Rattle.std.proofs.Common.{rules}
use Rattle.asn1_strings.proofs.restricted_string.RestrictedStringHash.hash.Goals as goal

pub loop-character-init : goal.loop-character-init
loop-character-init c = search rules
