use Rattle.std.proofs.Common.{◌*◌, length, refl}
use Rattle.asn1_bits.specs.BitStr.{view_of, bits_of}
use Rattle.asn1_bits.specs.Laws.ViewLaws.{length-list_of}
use Rattle.asn1_values.specs.Fields.{Bits}
use Rattle.asn1_values.proofs.OverLemmas.{reached}
use Rattle.asn1_values.proofs.bit_fields.bits.overwrite.Goals as goal

pub overwrite_view-requires : goal.overwrite_view-requires
overwrite_view-requires c =
    let b = c.args.view.now in
    reached (Bits (bits_of b)) (bits_of b) (view_of b).len (8 * length c.args.target.now) c.args.position refl
    (length-list_of (view_of b) b.within) c.requires.within
