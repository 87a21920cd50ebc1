use Rattle.std.proofs.Common.{◌≡◌, sym, ◌∙◌}
use Rattle.asn1_values.specs.Words.{shortest_octets}
use Rattle.field_lines.proofs.print.print_integer.Goals as goal

pub returns : goal.returns
returns c =
    let n = c.args.number.now in
    let one = c.laws_of_shortest_octets.ensures.one_list n in
    let computed = one.2 (shortest_octets n) (c.laws_of_shortest_octets.ensures.computed n) in
    let same : c.as_ref.result.now ≡ shortest_octets n =
    c.as_ref.ensures ∙ one.2 c.signed_octets.result c.signed_octets.ensures ∙ sym computed in
    rw same at c.print_octets.ensures
