use Rattle.std.proofs.Common.{rules, ◌≡◌, [], sym, ap, ◌∙◌, arith}
use Rattle.std.proofs.lemmas.List.{nil_from_length}
use Rattle.asn1_bits.specs.Bits.{bits, ored}
use Rattle.asn1_bits.specs.BitStr.{bits_of}
use Rattle.asn1_bits.proofs.OredLemmas.{ored-none}
use Rattle.asn1_bits.proofs.kernels.or_above_64.Goals as goal

pub returns-then-len-eq0-clause-bits : goal.returns-then-len-eq0-clause-bits
returns-then-len-eq0-clause-bits c =
    let old = bits c.args.target.octets.now in
    let none : bits_of c.args.src.now ≡ [] =
    nil_from_length (bits_of c.args.src.now) (omega (arith, c.if-len-eq0.true, c.len.ensures.list)) in
    sym (ap (ored old c.args.position) none ∙ ored-none old c.args.position)

pub returns-clause-bits : goal.returns-clause-bits
returns-clause-bits c = search rules

pub returns-clause-turns : goal.returns-clause-turns
returns-clause-turns c = search rules
