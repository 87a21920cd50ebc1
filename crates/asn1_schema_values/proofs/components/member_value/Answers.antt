use Rattle.std.proofs.Common.{◌-◌, ◌<◌, arith}
use Rattle.asn1_schema_values.proofs.ValueLemmas.{member_if_present}
use Rattle.asn1_schema_values.proofs.components.member_value.Goals as goal

pub returns : goal.returns
returns c =
    let row = c.in_ok-row.row in
    let below : row - c.args.rows.from < c.args.count = omega arith in
    member_if_present c.args.message.now c.args.rows c.args.from c.args.count c.args.name.now row c.in_ok-row.ensures
    c.in_ok-at.at c.in_ok-at.ensures c.present_at.result below c.present_at.ensures
