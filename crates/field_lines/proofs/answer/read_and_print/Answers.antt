use Rattle.std.proofs.Common.{◌≡◌, Bool, List, ap, subst}
use Rattle.asn1_values.specs.Plain.{plain_fields, plain_shapes}
use Rattle.asn1_values.specs.Words.{list_of, bits_of, bits_left}
use Rattle.field_lines.specs.Answer.{IsBitsAnswer, IsOnly, IsPrinted}
use Rattle.field_lines.proofs.AnswerLemmas.{goes_on, fields_only}
use Rattle.field_lines.proofs.answer.read_and_print.Goals as goal

pub printed_fields-requires : goal.printed_fields-requires
printed_fields-requires c = rw c.as_slice.ensures.value (c.in-Ok.ensures.one_spelling c.requires)

pub returns-in-Ok : goal.returns-in-Ok
returns-in-Ok c =
    let old = bits_left c.new-reader.result in
    let list = bits_of c.args.view in
    let shapes = plain_shapes c.args.shapes.now in
    let fields = plain_fields c.as_slice.result.now in
    let rest = bits_left c.read_fields.new.reader in
    let whole : old ≡ list = ap list_of c.new-reader.ensures in
    goes_on c.printed_fields.result (IsOnly (IsPrinted fields c.len.result)) (IsOnly (IsBitsAnswer list shapes))
    c.printed_fields.ensures
    (λ answer p. subst (λ (l : List Bool). IsOnly (IsBitsAnswer l shapes) answer) whole
    (fields_only old shapes fields rest
    (rw c.as_slice.ensures.value c.in-Ok.ensures.only)
    (λ e ne h. let named = c.in-Ok.ensures.named e ne h in cc)
    c.len.result answer
    (rw c.as_slice.ensures.value c.in-Ok.ensures.found)
    c.len.ensures.list p))
