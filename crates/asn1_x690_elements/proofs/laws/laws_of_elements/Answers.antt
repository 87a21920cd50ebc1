use Rattle.asn1_x690_elements.specs.Laws.ElementLaws.{levels_are_sound}
use Rattle.asn1_x690_elements.proofs.laws.laws_of_elements.Goals as goal

pub returns-clause-fills_one : goal.returns-clause-fills_one
returns-clause-fills_one c depth = (levels_are_sound depth).one

pub returns-clause-fault : goal.returns-clause-fault
returns-clause-fault c depth = (levels_are_sound depth).names
