use Rattle.std.proofs.Common.{rules}
use Rattle.asn1_characters.proofs.error.InvalidRestrictedString.of.Goals as goal

pub returns-in-General : goal.returns-in-General
returns-in-General c = search rules
