use Rattle.field_lines.proofs.PartLemmas.{no_three_lines}
use Rattle.field_lines.proofs.parse.Lines.of.Goals as goal

pub returns-in_err-start : goal.returns-in_err-start
returns-in_err-start c =
    rw c.from_residual-in_err-start.ensures
    (no_three_lines c.args.text.now c.in_ok-shapes.shapes.now c.in_ok-octets.octets.now c.in_ok-shapes.rest.now
    c.in_ok-octets.rest.now c.in_ok-shapes.ensures.some c.in_ok-octets.ensures.some c.in_err-start.ensures)
