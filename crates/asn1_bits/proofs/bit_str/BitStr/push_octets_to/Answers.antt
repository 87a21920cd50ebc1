use Rattle.std.proofs.Common.{Bool, List, ◌++◌, ap, ◌∙◌}
use Rattle.asn1_bits.specs.Bits.{bits}
use Rattle.asn1_bits.specs.Laws.DigitLaws.{bits-append}
use Rattle.asn1_bits.proofs.bit_str.BitStr.push_octets_to.Goals as goal

pub returns-in-Some-clause-ok : goal.returns-in-Some-clause-ok
returns-in-Some-clause-ok c =
    let old = c.args.octets.now.items in
    let own = c.in-Some.own.now in
    ap bits c.in_ok-extend_from_slice.ensures.items ∙ bits-append old own
    ∙ ap (λ (l : List Bool). bits old ++ l) c.in-Some.ensures.bits
