use Rattle.std.proofs.Common.{sym, drop, ◌∙◌, arith}
use Rattle.asn1_bits.specs.BitReader.{bits_left}
use Rattle.asn1_values.specs.declared.bit_fields.field.Field.TheVariants as fields
use Rattle.asn1_values.specs.Fields as plain
use Rattle.asn1_values.specs.Walk.{field_at}
use Rattle.asn1_values.specs.Wrong.{first_octet}
use Rattle.asn1_values.proofs.CountedIntegerKind.{counted_there, read_counted, length-read_counted}
use Rattle.asn1_values.proofs.IntegerKind.{read_integer, some_octets}
use Rattle.asn1_values.proofs.WalkLemmas.{is_there}
use Rattle.asn1_values.proofs.bit_fields.counted_integer.read_into.Goals as goal

pub read_signed-requires-clause-some : goal.read_signed-requires-clause-some
read_signed-requires-clause-some c =
    let old = bits_left c.args.reader.now in
    let cut = c.in_ok-front.ensures.taken in
    let ok =
    is_there c.args.field (field_at plain.OfCountedInteger old) (bits_left c.take_value.new.reader)
    c.in_ok-front.ensures.examined.ok in
    omega (arith, cut.len, cut.counted, some_octets (first_octet old) (drop 8 old) (counted_there old ok).2)

pub returns : goal.returns
returns c =
    let old = bits_left c.args.reader.now in
    let new = bits_left c.take_value.new.reader in
    let number = c.in_ok-number.number in
    let cut = c.in_ok-front.ensures.taken in
    let ok = is_there c.args.field (field_at plain.OfCountedInteger old) new c.in_ok-front.ensures.examined.ok in
    let there = counted_there old ok in
    let inner =
    read_integer cut.octets (drop 8 old) new number (rw cut.counted there.2) cut.rest
    (λ octets is are. c.in_ok-number.ensures.value octets (is ∙ sym cut.list) are) in
    record {
      read = record {
        field = fields.CountedInteger number;
        appended = c.push_reserved.ensures.items;
        read = read_counted old new number ok (rw cut.counted at inner);
        place = tt;
        rest = λ list s. rw (length-read_counted cut.octets (drop 8 old) new number inner list s) cut.moved;
      };
      len = c.push_reserved.ensures.len;
      capacity = c.push_reserved.ensures.capacity;
      err = tt;
    }
