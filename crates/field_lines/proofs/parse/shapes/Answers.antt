use Rattle.std.proofs.Common.{◌≢◌, eqb, length, rules, tests, arith}
use Rattle.std.proofs.lemmas.Bool.Decides.{nat_tests}
use Rattle.std.proofs.lemmas.Iterator.Consumers.{YieldsList-turn, YieldsList-end}
use Rattle.std.proofs.lemmas.Iterator.Splits.{YieldsList-from_slice_split}
use Rattle.asn1_values.specs.Plain.{plain_shapes}
use Rattle.field_lines.proofs.WordLemmas.{words_more, no_shape_for, words_of_line, line_of_words}
use Rattle.field_lines.proofs.parse.shapes.Goals as goal

pub returns-in_default : goal.returns-in_default
returns-in_default c = λ shapes h.
    let some : length c.args.line.now ≢ 0 = grind (arith, nat_tests) in
    let turn =
    YieldsList-turn (YieldsList-from_slice_split _ (λ octet. eqb octet 32) c.args.line.now (cc) (cc) (cc)
    (λ x b q k. search (rules, tests))) c.loop-word.yielded _ c.loop-word.yielded_by _ _ c.in-Some.word c.in-Some.is
    c.next.ensures.steps in
    no_shape_for _ shapes (length c.loop-word.yielded) c.in-Some.word.now turn.0 turn.1 c.in_default.ensures
    (words_of_line c.args.line.now shapes some h)

pub loop-word-preserved : goal.loop-word-preserved
loop-word-preserved c =
    rw c.in_ok-push.ensures.items
    (words_more c.loop-word.yielded c.loop-word.shapes.items c.in-Some.word c.in-Some-shape.shape c.loop-word.invariant
    c.in-Some-shape.ensures)

pub returns : goal.returns
returns c =
    let some : length c.args.line.now ≢ 0 = grind (arith, nat_tests) in
    let end =
    YieldsList-end (YieldsList-from_slice_split _ (λ octet. eqb octet 32) c.args.line.now (cc) (cc) (cc)
    (λ x b q k. search (rules, tests))) c.loop-word.yielded _ c.loop-word.yielded_by _ _ c.in-None.is
    c.next.ensures.steps in
    line_of_words c.args.line.now (plain_shapes c.loop-word.shapes.items) some (rw end.0 at c.loop-word.invariant)
