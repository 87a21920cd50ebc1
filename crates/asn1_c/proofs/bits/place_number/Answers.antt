use Rattle.std.proofs.Common.{Bool, List, ap, ◌∙◌}
use Rattle.asn1_bits.specs.Bits.{bits, ored}
use Rattle.asn1_bits.specs.BitStr.{view_of}
use Rattle.asn1_c.proofs.BitLemmas.{placed}
use Rattle.asn1_c.proofs.bits.place_number.Goals as goal

pub returns : goal.returns
returns c =
    c.write_bitslice.ensures.bits
    ∙ ap (λ (l : List Bool). ored (bits c.args.target.now) c.args.position l)
    (placed (view_of c.in-Some.view) _ c.args.number c.args.width c.requires.few c.in-Some.ensures.some
    c.to_be_bytes-octets.ensures)
