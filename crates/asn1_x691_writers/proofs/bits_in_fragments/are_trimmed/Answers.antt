use Rattle.std.proofs.Common.{◌≡◌, ℕ, ◌+◌, ◌-◌, ◌<◌, ◌≤◌, Bool, List, length, sym, ap, ◌∙◌, subst, arith}
use Rattle.std.proofs.lemmas.Bool.{eqb-true, eqb-false}
use Rattle.asn1_bits.specs.Bits.{bits, number}
use Rattle.asn1_bits.specs.Laws.DigitLaws.{length-bits}
use Rattle.asn1_schema.specs.PiecesOfParts.{bits_at}
use Rattle.asn1_x691.specs.Leaves.{AreTrimmed}
use Rattle.asn1_x691_fields.specs.TrimmedSteps.{of_least, too_few, last_one, last_zero}
use Rattle.asn1_x691_writers.specs.Joined.{bits_in}
use Rattle.asn1_x691_writers.specs.JoinedSteps.{whole_list}
use Rattle.asn1_x691_writers.proofs.JoinedLemmas.{last_in_run}
use Rattle.asn1_x691_writers.proofs.bits_in_fragments.are_trimmed.Goals as goal

pub returns-then-count-least-clause-yes : goal.returns-then-count-least-clause-yes
returns-then-count-least-clause-yes c e =
    let list = bits_in (bits c.args.source.now) c.args.joined.now in
    subst (AreTrimmed c.args.size) (whole_list list c.args.count c.requires.all)
    (of_least list 0 c.args.count (omega (arith, c.requires.all)) c.args.size
    (eqb-true c.args.count c.least_of-least.result e ∙ c.least_of-least.ensures))

pub returns-then-count-least-clause-no : goal.returns-then-count-least-clause-no
returns-then-count-least-clause-no c e t =
    let list = bits_in (bits c.args.source.now) c.args.joined.now in
    let few : c.args.count < c.least_of-least.result = omega (arith, c.if-count-least.true, eqb-false c.args.count c.least_of-least.result e) in
    too_few list 0 c.args.count (omega (arith, c.requires.all)) c.args.size (omega (arith, few, c.least_of-least.ensures))
    (subst (AreTrimmed c.args.size) (sym (whole_list list c.args.count c.requires.all)) t)

pub returns-clause-yes : goal.returns-clause-yes
returns-clause-yes c e =
    let list = bits_in (bits c.args.source.now) c.args.joined.now in
    let count = c.args.count in
    let run = c.run_at-last in
    let bit = last_in_run (bits c.args.source.now) list run.result count c.read_few.result run.ensures.some run.ensures.same c.read_few.ensures.digits
    c.read_few.ensures.below in
    subst (AreTrimmed c.args.size) (whole_list list count c.requires.all)
    (last_one list 0 count (omega (arith, c.requires.all)) c.args.size (omega (arith, c.if-count-least.false, c.least_of-least.ensures))
    c.read_few.result bit e)

pub returns-clause-no : goal.returns-clause-no
returns-clause-no c e t =
    let list = bits_in (bits c.args.source.now) c.args.joined.now in
    let count = c.args.count in
    let run = c.run_at-last in
    let bit = last_in_run (bits c.args.source.now) list run.result count c.read_few.result run.ensures.some run.ensures.same c.read_few.ensures.digits
    c.read_few.ensures.below in
    last_zero list 0 count (omega (arith, c.requires.all)) c.args.size (omega (arith, c.if-count-least.false, c.least_of-least.ensures))
    c.read_few.result bit e (subst (AreTrimmed c.args.size) (sym (whole_list list count c.requires.all)) t)

pub read_few-requires-clause-within : goal.read_few-requires-clause-within
read_few-requires-clause-within c =
    omega (arith, length-bits c.args.source.now, c.run_at-last.ensures.some, c.run_at-last.ensures.inside)
