use Rattle.std.proofs.Common.{◌*◌, length, refl}
use Rattle.asn1_bits.specs.Bits.{bits}
use Rattle.asn1_bits.specs.BitAppender.{room}
use Rattle.asn1_bits.specs.Laws.DigitLaws.{length-bits}
use Rattle.asn1_values.specs.Fields.{Identifier}
use Rattle.asn1_values.proofs.SpellingLemmas.{space_of, one_pushed}
use Rattle.asn1_values.proofs.bit_fields.identifier.push.Goals as goal

pub push_each-requires : goal.push_each-requires
push_each-requires c =
    let arcs = c.args.oid.now in
    let o = c.in-Some.octets in
    let fits = c.requires.some in
    let contents = rw c.as_oid.ensures at c.in-Some.ensures in
    space_of (Identifier arcs) (bits o) (8 * length o) (room c.args.appender.now) (o, contents, fits.1.2, refl)
    (length-bits o) c.requires

pub returns : goal.returns
returns c =
    let arcs = c.args.oid.now in
    let o = c.in-Some.octets in
    let fits = c.requires.some in
    let contents = rw c.as_oid.ensures at c.in-Some.ensures in
    one_pushed (Identifier arcs) (bits o) c.args.appender.now c.push_each.new.appender c.args.turns.now.count
    c.push_each.new.turns.count (o, contents, fits.1.2, refl) c.push_each.ensures
