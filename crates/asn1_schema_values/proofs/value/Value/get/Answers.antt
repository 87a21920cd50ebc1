use Rattle.asn1_schema_values.proofs.ComponentLemmas.{component_if}
use Rattle.asn1_schema_values.proofs.value.Value.get.Goals as goal

pub returns-in-None : goal.returns-in-None
returns-in-None c =
    component_if c.args.self.now c.args.name.now c.in-None.ensures c.addition.result c.addition.ensures
