use Rattle.std.proofs.Common.{false, sym, ap, ◌∙◌, arith}
use Rattle.std.specs.Prelude.{Some}
use Rattle.std.proofs.lemmas.Option.{slice_get-get_or}
use Rattle.asn1_bits.specs.BitStr.{view_of, bits_of}
use Rattle.asn1_bits.specs.Laws.ViewLaws.{length-list_of, get_or-list_of}
use Rattle.asn1_bits.proofs.bit_str.BitStr.get.Goals as goal

pub returns : goal.returns
returns c =
    let b = c.args.self.now in
    slice_get-get_or (bits_of b) c.args.i false (omega (arith, length-list_of (view_of b) b.within))
    ∙ ap Some (get_or-list_of (view_of b) c.args.i c.requires ∙ sym c.bit_from.ensures)
