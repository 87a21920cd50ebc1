use Rattle.std.proofs.Common.{rules, Bool, List, ap, ◌∙◌}
use Rattle.asn1_bits.specs.Bits.{bits, ored}
use Rattle.asn1_bits.proofs.kernels.or_bits.Goals as goal

pub returns-clause-bits : goal.returns-clause-bits
returns-clause-bits c =
    c.write_bitslice.ensures.bits ∙ ap (λ (l : List Bool). ored (bits c.args.dst.now) c.args.position l)
    c.part_of.ensures.list

pub returns-clause-at_least : goal.returns-clause-at_least
returns-clause-at_least c = search rules
