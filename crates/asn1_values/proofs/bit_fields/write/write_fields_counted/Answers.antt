use Rattle.std.proofs.Common.{List, Bool, ◌++◌, ap, ◌∙◌, arith}
use Rattle.asn1_values.specs.Plain.{plain_fields}
use Rattle.asn1_values.specs.Laws.SpellingLaws.{all_one}
use Rattle.asn1_values.proofs.OneRefusal.{only_too_long}
use Rattle.asn1_values.proofs.bit_fields.write.write_fields_counted.Goals as goal

-- what is written is the same list, whichever encodes the fields
pub returns-in-Some-clause-one : goal.returns-in-Some-clause-one
returns-in-Some-clause-one c = λ codes list s.
    let w = c.in-Some.ensures.written in
    w.2 ∙ ap (λ (l : List Bool). c.args.buffer.now ++ l)
    (all_one (plain_fields c.args.fields.now) w.0 list codes w.1 s)

-- nothing could fail
pub returns-in-Some-clause-named : goal.returns-in-Some-clause-named
returns-in-Some-clause-named c = λ e ne is.
    let w = c.in-Some.ensures.written in
    let far =
    only_too_long _ (plain_fields c.args.fields.now) w.0 e w.1 ne is in
    let fits = c.in-Some.ensures.fits far.0 far.1 in
    let long = far.2 in
    absurd (omega arith)
