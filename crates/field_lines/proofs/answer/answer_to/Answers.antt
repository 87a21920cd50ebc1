use Rattle.std.proofs.Common.{Bool, List, codes, subst}
use Rattle.asn1_values.specs.Plain.{plain_shapes}
use Rattle.asn1_values.specs.Words.{bits_of}
use Rattle.field_lines.specs.Answer.{IsAnswer, IsBitsAnswer, IsOnly}
use Rattle.field_lines.proofs.AnswerLemmas.{refused_by, goes_on, bad_input, bad_shapes, bad_octets, bad_start, on_bits}
use Rattle.field_lines.proofs.OneLemmas.{words_in_one_code}
use Rattle.field_lines.proofs.answer.answer_to.Goals as goal

pub returns-in_default-clause-answer : goal.returns-in_default-clause-answer
returns-in_default-clause-answer c =
    refused_by c.refusal.result (codes "bad input") (IsOnly (IsAnswer c.args.text.now)) c.refusal.ensures
    (bad_input c.args.text.now c.in_default.ensures)

pub returns-in_default-2-clause-answer : goal.returns-in_default-2-clause-answer
returns-in_default-2-clause-answer c =
    let none = rw c.in_default-2.is at c.in_ok-shapes.ensures in
    refused_by c.refusal-in_default-2.result (codes "bad shapes") (IsOnly (IsAnswer c.args.text.now))
    c.refusal-in_default-2.ensures
    (bad_shapes c.args.text.now _ c.in-Some.ensures none)

pub returns-in_default-3-clause-answer : goal.returns-in_default-3-clause-answer
returns-in_default-3-clause-answer c =
    let words = rw c.in-Some-2.is at c.in_ok-shapes.ensures in
    let none = rw c.in_default-3.is at c.in_ok-octets.ensures in
    refused_by c.refusal-in_default-3.result (codes "bad octets") (IsOnly (IsAnswer c.args.text.now))
    c.refusal-in_default-3.ensures
    (bad_octets c.args.text.now _ c.in-Some.ensures _ words none)

pub returns-in_default-4-clause-answer : goal.returns-in_default-4-clause-answer
returns-in_default-4-clause-answer c =
    let words = rw c.in-Some-2.is at c.in_ok-shapes.ensures in
    let octets = rw c.in-Some-3.is at c.in_ok-octets.ensures in
    let none = rw (c.in_default-4.is, c.as_slice.ensures.value) at c.in_ok-view.ensures in
    refused_by c.refusal-in_default-4.result (codes "bad start") (IsOnly (IsAnswer c.args.text.now))
    c.refusal-in_default-4.ensures
    (bad_start c.args.text.now _ c.in-Some.ensures _ words _ octets none)

pub read_and_print-requires : goal.read_and_print-requires
read_and_print-requires c =
    let words = rw c.in-Some-2.is at c.in_ok-shapes.ensures in
    rw c.as_slice-2.ensures.value (words_in_one_code c.in-Some.lines.shapes.now _ words)

pub returns-clause-answer : goal.returns-clause-answer
returns-clause-answer c =
    let words = rw c.in-Some-2.is at c.in_ok-shapes.ensures in
    let octets = rw c.in-Some-3.is at c.in_ok-octets.ensures in
    let start = rw (c.in-Some-4.is, c.as_slice.ensures.value) at c.in_ok-view.ensures in
    let shapes = plain_shapes c.as_slice-2.result.now in
    goes_on c.read_and_print.result (IsOnly (IsBitsAnswer (bits_of c.in-Some-4.view) shapes))
    (IsOnly (IsAnswer c.args.text.now)) c.read_and_print.ensures
    (λ answer is. on_bits c.args.text.now _ c.in-Some.ensures _ words _ octets start.0 answer start.1
    (rw (← c.as_slice-2.ensures.value) (subst (λ (l : List Bool). IsOnly (IsBitsAnswer l shapes) answer) start.2 is)))
