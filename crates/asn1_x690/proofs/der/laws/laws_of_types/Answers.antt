use Rattle.asn1_x690.specs.Laws.TypeLaws.{encoding_at_good}
use Rattle.asn1_x690.specs.Laws.ExampleLaws.{example_is}
use Rattle.asn1_x690.specs.Laws.ValueLaws.{value_at}
use Rattle.asn1_x690.proofs.der.laws.laws_of_types.Goals as goal

pub returns-clause-decodes_one : goal.returns-clause-decodes_one
returns-clause-decodes_one c nodes context depth place = (encoding_at_good nodes context depth place).decodes.one

pub returns-clause-fault : goal.returns-clause-fault
returns-clause-fault c nodes context depth place = (encoding_at_good nodes context depth place).decodes.names

pub returns-clause-encodes : goal.returns-clause-encodes
returns-clause-encodes c nodes context depth place = (encoding_at_good nodes context depth place).encodes

pub returns-clause-misfit : goal.returns-clause-misfit
returns-clause-misfit c nodes context depth place = (encoding_at_good nodes context depth place).names

pub returns-clause-is : goal.returns-clause-is
returns-clause-is c = example_is

pub returns-clause-value : goal.returns-clause-value
returns-clause-value c nodes context depth place = value_at nodes context depth place
