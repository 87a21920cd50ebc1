use Rattle.asn1_x691.specs.Laws.FragmentLaws.{octets_sound, octets_one}
use Rattle.asn1_x691.proofs.laws.laws_of_octets.Goals as goal

pub returns-clause-decodes_one : goal.returns-clause-decodes_one
returns-clause-decodes_one c most aligned node at = (octets_sound most aligned node at).one

pub returns-clause-fault : goal.returns-clause-fault
returns-clause-fault c most aligned node at = (octets_sound most aligned node at).names

pub returns-clause-encodes_one : goal.returns-clause-encodes_one
returns-clause-encodes_one c most aligned node at = octets_one most aligned node at
