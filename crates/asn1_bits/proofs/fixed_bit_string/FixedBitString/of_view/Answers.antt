use Rattle.std.proofs.Common.{◌*◌, Bool, List, ap, ◌∙◌, arith}
use Rattle.asn1_bits.specs.Bits.{bits, ored}
use Rattle.asn1_bits.specs.BitStr.{view_of, bits_of}
use Rattle.asn1_bits.proofs.BufferLemmas.{bits-zeros}
use Rattle.asn1_bits.proofs.RoomLemmas.{zeros-filled}
use Rattle.asn1_bits.specs.Laws.ViewLaws.{length-list_of}
use Rattle.asn1_bits.proofs.fixed_bit_string.FixedBitString.of_view.Goals as goal

pub invariant_of-result : goal.invariant_of-result
invariant_of-result g c =
    let src = c.args.src in
    record {
      zeros =
          (zeros-filled (bits c.write_bitslice.new.dst) (bits_of src) g.row.N (8 * g.row.N)
          (c.write_bitslice.ensures.bits ∙ ap (λ (l : List Bool). ored l 0 (bits_of src)) (bits-zeros g.row.N))
          (length-list_of (view_of src) src.within ∙ c.requires) (omega arith)).0;
    }

pub returns : goal.returns
returns g c =
    let src = c.args.src in
    (zeros-filled (bits c.write_bitslice.new.dst) (bits_of src) g.row.N (8 * g.row.N)
    (c.write_bitslice.ensures.bits ∙ ap (λ (l : List Bool). ored l 0 (bits_of src)) (bits-zeros g.row.N))
    (length-list_of (view_of src) src.within ∙ c.requires) (omega arith)).1
