use Rattle.std.proofs.Common.{◌≢◌, length, arith}
use Rattle.std.proofs.lemmas.Bool.Decides.{nat_tests}
use Rattle.field_lines.proofs.PartLemmas.{no_last_line}
use Rattle.field_lines.proofs.parse.last_line.Goals as goal

pub returns-else-is_empty-2 : goal.returns-else-is_empty-2
returns-else-is_empty-2 c =
    let some : length c.in-Some.rest.now ≢ 0 = grind (arith, nat_tests) in
    no_last_line c.args.text.now c.in-Some.line.now c.in-Some.rest.now c.in-Some.ensures.some some
