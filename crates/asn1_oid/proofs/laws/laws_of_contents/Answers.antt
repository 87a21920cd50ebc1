use Rattle.asn1_oid.specs.Laws.ReadingLaws.{one_list_of_arcs}
use Rattle.asn1_oid.specs.Laws.WritingLaws.{one_contents}
use Rattle.asn1_oid.proofs.laws.laws_of_contents.Goals as goal

pub returns-clause-one_contents : goal.returns-clause-one_contents
returns-clause-one_contents c = one_contents

pub returns-clause-one_list : goal.returns-clause-one_list
returns-clause-one_list c = one_list_of_arcs
