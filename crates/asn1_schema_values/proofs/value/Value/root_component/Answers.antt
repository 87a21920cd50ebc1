use Rattle.asn1_schema_values.proofs.ComponentLemmas.{root_if}
use Rattle.asn1_schema_values.proofs.value.Value.root_component.Goals as goal

pub returns-in_err-it : goal.returns-in_err-it
returns-in_err-it c =
    let none = c.in_err-it.ensures in
    rw c.from_residual.ensures (λ v is. none is.root is.additions is.count is.is_extended is.sequence)

pub returns : goal.returns
returns c =
    let it = c.in_ok-it.it in
    root_if c.args.self.now c.args.name.now it.root it.additions it.count it.is_extended c.in_ok-it.ensures
    c.member_value.result (rw c.in_ok-from.ensures at c.member_value.ensures)
