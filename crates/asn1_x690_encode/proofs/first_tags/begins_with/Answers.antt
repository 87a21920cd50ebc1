use Rattle.std.proofs.Common.{subst, Option}
use Rattle.asn1_x690_fields.specs.declared.identifier.FoundIdentifier.{FoundIdentifier}
use Rattle.asn1_x690_encode.specs.Encoding.{BeginsWith}
use Rattle.asn1_x690_encode.specs.FirstSteps.{may_not, none_begins}
use Rattle.asn1_x690_encode.proofs.first_tags.begins_with.Goals as goal

pub returns-in-None-clause-no : goal.returns-in-None-clause-no
returns-in-None-clause-no c list b e =
    none_begins c.args.tags.now c.args.first list (subst (λ (o : Option FoundIdentifier). BeginsWith o list) c.in-None.is b)

pub returns-in-Some-clause-no : goal.returns-in-Some-clause-no
returns-in-Some-clause-no c list b e =
    may_not c.args.tags.now c.args.first list c.in-Some.found (subst (λ (o : Option FoundIdentifier). BeginsWith o list) c.in-Some.is b)
    (λ id i. c.has_tag.ensures.no id i e)
