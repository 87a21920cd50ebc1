use Rattle.asn1_schema_values.proofs.TableLemmas.{is_closed}
use Rattle.asn1_schema_values.proofs.laws.laws_of_tables.Goals as goal

pub returns : goal.returns
returns c = is_closed c.args.tables.now
