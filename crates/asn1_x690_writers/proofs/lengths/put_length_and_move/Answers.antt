use Rattle.std.proofs.Common.{◌+◌, ◌*◌, length, inl, inr, arith}
use Rattle.std.proofs.lemmas.Bool.{cases_lt}
use Rattle.asn1_x690_writers.specs.HeaderSteps.{length_written, length_short}
use Rattle.asn1_x690_writers.proofs.lengths.put_length_and_move.Goals as goal

pub returns-then-max-count-clause-before : goal.returns-then-max-count-clause-before
returns-then-max-count-clause-before c contents size have whole =
    let l = c.length_of-length in
    length_written contents c.args.count l.result.value l.result.width c.args.reserved c.args.octets.now c.move_contents.new.octets
    c.overwrite_number.new.dst l.ensures.encodes size (omega (arith, l.ensures.whole)) (omega (arith, c.if-max-count.true, c.max.ensures)) have
    c.move_contents.ensures c.overwrite_number.ensures.bits

pub returns-else-max-count-clause-before : goal.returns-else-max-count-clause-before
returns-else-max-count-clause-before c contents size have whole =
    let l = c.length_of-length in
    length_short contents c.args.count l.result.value l.result.width c.args.octets.now l.ensures.encodes size
    (elim (cases_lt (8 * length c.args.octets.now) (l.result.width + 8 * c.args.count)) [
      | inl lt ↦ lt
      | inr le ↦ absurd (let fit = whole le in omega (arith, fit, le, l.ensures.whole, c.max.ensures, c.if-max-count.false))
    ])
