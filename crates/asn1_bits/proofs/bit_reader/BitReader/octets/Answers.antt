use Rattle.std.proofs.Common.{rules, List, Bool, ◌++◌, ap, ◌∙◌}
use Rattle.asn1_bits.specs.BitReader.{bits_left}
use Rattle.asn1_bits.specs.Laws.ViewLaws.{bits-none}
use Rattle.asn1_bits.proofs.bit_reader.BitReader.octets.Goals as goal

pub returns-clause-bits : goal.returns-clause-bits
returns-clause-bits c =
    c.in_ok-push_octets_to.ensures.ok
    ∙ ap (λ (l : List Bool). l ++ bits_left c.args.self.now)
    (bits-none c.new-octets.result.items c.new-octets.ensures.items)

pub returns-in_err-push_octets_to-clause-free_aligned : goal.returns-in_err-push_octets_to-clause-free_aligned
returns-in_err-push_octets_to-clause-free_aligned c = search rules

pub returns-clause-borrowed : goal.returns-clause-borrowed
returns-clause-borrowed c = search rules
