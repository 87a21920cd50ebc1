use Rattle.std.proofs.Common.{◌*◌, length, refl}
use Rattle.asn1_bits.specs.Bits.{bits}
use Rattle.asn1_bits.specs.Laws.DigitLaws.{length-bits}
use Rattle.asn1_values.specs.Fields.{Identifier}
use Rattle.asn1_values.proofs.OverLemmas.{reached}
use Rattle.asn1_values.proofs.bit_fields.identifier.overwrite.Goals as goal

pub overwrite_each-requires : goal.overwrite_each-requires
overwrite_each-requires c =
    let arcs = c.args.oid.now in
    let o = c.in-Some.octets in
    let fits = c.requires.fits in
    let contents = rw c.as_oid.ensures at c.in-Some.ensures in
    reached (Identifier arcs) (bits o) (8 * length o) (8 * length c.args.target.now) c.args.position
    (o, contents, fits.1.2, refl) (length-bits o) c.requires.within
