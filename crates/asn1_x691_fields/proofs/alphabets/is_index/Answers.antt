use Rattle.std.proofs.Common.{arith}
use Rattle.std.proofs.lemmas.Bool.{ltb-true, ltb-false}
use Rattle.asn1_x691_fields.proofs.AlphabetLemmas.{index_of_ascending, no_index}
use Rattle.asn1_x691_fields.proofs.alphabets.is_index.Goals as goal

pub returns-clause-yes : goal.returns-clause-yes
returns-clause-yes c e =
    let a = c.args.alphabet.now in
    let below = ltb-true c.args.index a.count e in
    index_of_ascending a.ranges.now c.args.index (c.requires.is.ascending c.requires.ascending) (omega (arith, below, c.requires.is.count))

pub returns-clause-no : goal.returns-clause-no
returns-clause-no c e d p q =
    let a = c.args.alphabet.now in
    let past = ltb-false c.args.index a.count e in
    no_index a.ranges.now c.args.index d (omega (arith, past, c.requires.is.count)) p q
