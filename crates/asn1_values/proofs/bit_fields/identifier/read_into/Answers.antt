use Rattle.std.proofs.Common.{◌≡◌, ℕ, ◌*◌, ◌/◌, length, take, Ok, ap, subst, arith}
use Rattle.asn1_bits.specs.BitReader.{view_left, bits_left}
use Rattle.asn1_bits.specs.View.{View}
use Rattle.asn1_bits.specs.Laws.ViewLaws.{length-list_of}
use Rattle.asn1_oid.specs.Reading.{contents_reading}
use Rattle.asn1_values.specs.Fields as plain
use Rattle.asn1_values.specs.Walk.{field_at, octets_of}
use Rattle.asn1_values.specs.declared.bit_fields.field.Field.TheVariants as fields
use Rattle.asn1_values.proofs.IdentifierKind.{read_identifier, length-read_identifier}
use Rattle.asn1_values.proofs.WalkLemmas.{is_there}
use Rattle.asn1_values.proofs.bit_fields.identifier.read_into.Goals as goal

pub returns : goal.returns
returns c =
    let octets = c.args.octets in
    let old = bits_left c.args.reader.now in
    let new = bits_left c.take_value.new.reader in
    let front = c.in_ok-front.front in
    let oid = c.in_ok-oid.oid in
    let n = (view_left front).len / 8 in
    let cut = c.in_ok-front.ensures.taken in
    let whole : (view_left front).len ≡ 8 * octets = ap (λ (v : View). v.len) cut.view in
    let count : n ≡ octets = omega (arith, whole) in
    let read : contents_reading (octets_of octets (take (8 * octets) old)) ≡ Ok oid =
    subst (λ (k : ℕ). contents_reading (octets_of k (take (8 * octets) old)) ≡ Ok oid) count
    (rw cut.list at c.in_ok-oid.ensures) in
    record {
      read = record {
        field = fields.Oid oid;
        appended = c.push_reserved.ensures.items;
        read =
            read_identifier octets old new oid
            (is_there c.args.field (field_at (plain.OfIdentifier octets) old) new c.in_ok-front.ensures.examined.ok)
            cut.rest read;
        place = tt;
        rest =
            λ list s. let len =
            length-read_identifier n (bits_left front) oid
            (omega (arith, length-list_of (view_left front) front.view.within)) c.in_ok-oid.ensures list s in
            let same : length list ≡ 8 * octets = omega arith in
            rw same cut.moved;
      };
      len = c.push_reserved.ensures.len;
      capacity = c.push_reserved.ensures.capacity;
      err = tt;
    }
