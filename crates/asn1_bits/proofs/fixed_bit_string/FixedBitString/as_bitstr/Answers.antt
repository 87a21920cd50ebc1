use Rattle.std.proofs.Common.{rules, ◌≡◌, ℕ, ◌-◌, ◌*◌, false, ◌++◌, length, take, replicate, ap, ◌∙◌, arith}
use Rattle.asn1_bits.specs.Bits.{bits}
use Rattle.asn1_bits.specs.View.{View}
use Rattle.asn1_bits.specs.Laws.DigitLaws.{length-bits}
use Rattle.asn1_bits.proofs.ZeroLemmas.{zeros_behind}
use Rattle.asn1_bits.proofs.fixed_bit_string.FixedBitString.as_bitstr.Goals as goal

pub returns-clause-storage : goal.returns-clause-storage
returns-clause-storage g c =
    let octets = c.args.self.now.octets in
    let n : length octets ≡ g.row.N = search rules in
    let rest : length (bits octets) - g.row.N ≡ 7 * g.row.N = omega (arith, length-bits octets) in
    ap (λ (v : View). bits v.storage) c.part_of.ensures.view
    ∙ zeros_behind g.row.N (bits octets) c.args.self.now.zeros
    ∙ ap (λ (n : ℕ). take g.row.N (bits octets) ++ replicate n false) rest

pub returns-clause-list : goal.returns-clause-list
returns-clause-list g c = search rules

pub returns-clause-len : goal.returns-clause-len
returns-clause-len g c = search rules
