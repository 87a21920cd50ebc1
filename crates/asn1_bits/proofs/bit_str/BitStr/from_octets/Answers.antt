use Rattle.std.proofs.Common.{rules, ◌*◌, length, ◌∙◌, arith}
use Rattle.std.proofs.lemmas.List.{take_all}
use Rattle.asn1_bits.specs.Bits.{bits}
use Rattle.asn1_bits.specs.Laws.DigitLaws.{length-bits}
use Rattle.asn1_bits.proofs.bit_str.BitStr.from_octets.Goals as goal

pub returns-clause-list : goal.returns-clause-list
returns-clause-list c =
    let octets = c.args.octets.now in
    c.part_of.ensures.list ∙ take_all (length octets * 8) (bits octets) (omega (arith, length-bits octets))

pub returns-clause-view : goal.returns-clause-view
returns-clause-view c = search rules
