use Rattle.std.proofs.Common.{rules, ◌≡◌, [], ◌∙◌, sym, ap, arith}
use Rattle.std.proofs.lemmas.List.{nil_from_length}
use Rattle.asn1_bits.specs.Bits.{ored}
use Rattle.asn1_bits.specs.BitStr.{bits_of}
use Rattle.asn1_bits.proofs.OredLemmas.{ored-none}
use Rattle.asn1_bits.proofs.places.place_word.Goals as goal

pub returns-else-len-gt0-clause-list : goal.returns-else-len-gt0-clause-list
returns-else-len-gt0-clause-list g c =
    let old = g.D.Places.list c.args.target.now in
    let none : bits_of c.args.src ≡ [] =
    nil_from_length (bits_of c.args.src) (omega (arith, c.if-len-gt0.false, c.len-len.ensures.list)) in
    sym (ap (ored old c.args.position) none ∙ ored-none old c.args.position)

pub returns-then-len-gt0-clause-each_turn_places : goal.returns-then-len-gt0-clause-each_turn_places
returns-then-len-gt0-clause-each_turn_places g c = search rules

pub returns-then-len-gt0-clause-turns : goal.returns-then-len-gt0-clause-turns
returns-then-len-gt0-clause-turns g c = search rules
