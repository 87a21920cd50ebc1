use Rattle.std.proofs.Common.{◌+◌, ◌-◌, List, length, drop, ap, arith}
use Rattle.std.proofs.lemmas.List.{length-take}
use Rattle.asn1_schema.specs.declared.tables.Range.{Range}
use Rattle.asn1_x691_fields.proofs.texts.next_text_of_root.Goals as goal

pub next_found_text-requires-clause-ranges : goal.next_found_text-requires-clause-ranges
next_found_text-requires-clause-ranges c =
    let rows = c.args.rows in
    let few = length-take (rows.from + rows.count - rows.from) (drop rows.from c.args.table.now) in
    omega (arith, ap (λ (l : List Range). length l) c.ranges_in.ensures, few)
