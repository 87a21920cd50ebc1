use Rattle.asn1_number.specs.Laws.LawsHold.{one_shortest_list}
use Rattle.asn1_values.proofs.SpellingLemmas.{integer_fits}
use Rattle.asn1_values.proofs.bit_fields.integer.len_or_misfit.Goals as goal

pub returns : goal.returns
returns c =
    let one = one_shortest_list c.args.number.now in
    rw (c.signed_len.ensures one.0 one.1) (integer_fits c.args.number.now one.0 one.1)
