use Rattle.std.proofs.Common.{◌≡◌, Some}
use Rattle.asn1_schema_values.specs.Tables.{alphabets_of}
use Rattle.asn1_schema_values.proofs.TableLemmas.{by_alphabets}
use Rattle.asn1_schema_values.proofs.checks.check_type.Goals as goal

pub returns-in-Some : goal.returns-in-Some
returns-in-Some c =
    let n = c.args.node.now in
    let e : alphabets_of n ≡ Some (c.in-Some.alphabet, c.in-Some.whole) = cc in
    by_alphabets c.args.tables.now n c.in-Some.alphabet c.in-Some.whole e c.in_ok-check_indexes.ensures c.check_alphabets.result
    c.check_alphabets.ensures
