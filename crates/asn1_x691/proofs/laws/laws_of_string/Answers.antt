use Rattle.asn1_x691.specs.Laws.FragmentLaws.{string_sound, string_one}
use Rattle.asn1_x691.proofs.laws.laws_of_string.Goals as goal

pub returns-clause-decodes_one : goal.returns-clause-decodes_one
returns-clause-decodes_one c most aligned unit node at = (string_sound most aligned unit node at).one

pub returns-clause-fault : goal.returns-clause-fault
returns-clause-fault c most aligned unit node at = (string_sound most aligned unit node at).names

pub returns-clause-encodes_one : goal.returns-clause-encodes_one
returns-clause-encodes_one c most aligned unit node at = string_one most aligned unit node at
