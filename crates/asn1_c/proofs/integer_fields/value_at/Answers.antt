use Rattle.asn1_c.proofs.IntegerFieldLemmas.{value_of_word}
use Rattle.asn1_c.proofs.integer_fields.value_at.Goals as goal

pub returns : goal.returns
returns c =
    value_of_word c.args.octets.now c.args.at c.args.count c.requires.some c.requires.within c.read_wide.result
    c.to_be_bytes-word.result c.signed_value.result c.requires.few c.read_wide.ensures.digits
    c.to_be_bytes-word.ensures c.signed_value.ensures
