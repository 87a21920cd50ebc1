use Rattle.std.proofs.Common.{◌≡◌, ◌*◌, ◌++◌, length, drop}
use Rattle.asn1_strings.specs.Strings.{character_octets}
use Rattle.asn1_c.specs.Sets.{octets_of_characters}
use Rattle.asn1_c.proofs.utf8_string.put_characters.Given as goal

abbrev pub invariant-loop-character : goal.invariant-loop-character
invariant-loop-character l = record {
  written : l.room ≡ octets_of_characters l.name l.yielded ++ drop l.at l.fn.room;
  place : l.at ≡ character_octets l.name * length l.yielded;
}
