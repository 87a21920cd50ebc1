use Rattle.asn1_bits.proofs.turns.Turns.set.Given as goal

abbrev pub ghost-counting : goal.ghost-counting
ghost-counting g a = g.number
