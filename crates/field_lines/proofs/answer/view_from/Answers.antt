use Rattle.std.proofs.Common.{◌≤◌, ◌*◌, length, arith}
use Rattle.field_lines.proofs.NumberLemmas.{one_number}
use Rattle.field_lines.proofs.answer.view_from.Goals as goal

pub returns-then-first-len : goal.returns-then-first-len
returns-then-first-len c = λ n h.
    let same = one_number c.args.line.now c.in-Some-number.first n c.in-Some-number.ensures h.0 in
    let le : n ≤ 8 * length c.args.octets.now = h.1 in
    omega (arith, c.in-Some.ensures, same)
