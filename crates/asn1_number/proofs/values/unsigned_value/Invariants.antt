use Rattle.std.proofs.Common.{◌≡◌, take}
use Rattle.asn1_number.specs.Octets.{unsigned}
use Rattle.asn1_number.proofs.values.unsigned_value.Given as goal

abbrev pub invariant-loop-octet : goal.invariant-loop-octet
invariant-loop-octet l = l.value ≡ unsigned (take l.octet-index l.octets)
