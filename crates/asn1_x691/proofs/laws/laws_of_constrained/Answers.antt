use Rattle.asn1_x691.specs.Laws.FieldLaws.{constrained_sound}
use Rattle.asn1_x691.specs.Laws.OneEncodingLaws.{constrained_one}
use Rattle.asn1_x691.proofs.laws.laws_of_constrained.Goals as goal

pub returns-clause-decodes_one : goal.returns-clause-decodes_one
returns-clause-decodes_one c aligned range node at = (constrained_sound aligned range node at).one

pub returns-clause-fault : goal.returns-clause-fault
returns-clause-fault c aligned range node at = (constrained_sound aligned range node at).names

pub returns-clause-encodes_one : goal.returns-clause-encodes_one
returns-clause-encodes_one c aligned range node at = constrained_one aligned range node at
