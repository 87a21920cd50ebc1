use Rattle.std.proofs.Common.{◌≡◌, ◌≢◌, ◌++◌, length, string_bytes, ap, ◌∙◌, arith}
use Rattle.std.proofs.lemmas.Bool.Decides.{nat_tests}
use Rattle.std.proofs.lemmas.Result.{on_ok_weaker}
use Rattle.field_lines.proofs.LineLemmas.{no_octets_line, octets_line}
use Rattle.field_lines.proofs.print.print_octets.Goals as goal

pub returns-then-is_empty : goal.returns-then-is_empty
returns-then-is_empty c =
    let none : length c.args.octets.now ≡ 0 = grind (arith, nat_tests) in
    on_ok_weaker c.writeln.result
    (λ e. e ∙ ap (λ l. string_bytes c.args.text.now ++ l) (no_octets_line c.args.label.now c.args.octets.now none))
    c.writeln.ensures.bytes

pub returns : goal.returns
returns c =
    let some : length c.args.octets.now ≢ 0 = grind (arith, nat_tests) in
    on_ok_weaker c.writeln-2.result
    (λ e. e ∙ ap (λ l. string_bytes c.args.text.now ++ l)
    (octets_line c.args.label.now c.args.octets.now (string_bytes c.in_ok-digits.digits) some c.in_ok-digits.ensures))
    c.writeln-2.ensures.bytes
