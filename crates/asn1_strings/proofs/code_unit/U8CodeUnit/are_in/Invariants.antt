use Rattle.std.proofs.Common.{◌≡◌, take}
use Rattle.std.specs.List.{list_all}
use Rattle.asn1_characters.specs.Sets.{base_set, has_character}
use Rattle.asn1_strings.proofs.code_unit.U8CodeUnit.are_in.Given as goal

abbrev pub invariant-loop-octet : goal.invariant-loop-octet
invariant-loop-octet l =
    l.right ≡ list_all (has_character (base_set l.name)) (take l.octet-index l.octets)
