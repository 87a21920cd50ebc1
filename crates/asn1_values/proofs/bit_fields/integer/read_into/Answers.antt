use Rattle.std.proofs.Common.{sym, ap, ◌∙◌, arith}
use Rattle.asn1_bits.specs.BitReader.{bits_left}
use Rattle.asn1_bits.specs.View.{View}
use Rattle.asn1_values.specs.declared.bit_fields.field.Field.TheVariants as fields
use Rattle.asn1_values.specs.Walk.{field_at, integer_at}
use Rattle.asn1_values.proofs.IntegerKind.{read_integer, length-read_integer, some_octets}
use Rattle.asn1_values.proofs.WalkLemmas.{is_there}
use Rattle.asn1_values.proofs.bit_fields.integer.read_into.Goals as goal

pub read_signed-requires-clause-some : goal.read_signed-requires-clause-some
read_signed-requires-clause-some c =
    let old = bits_left c.args.reader.now in
    let ok =
    is_there c.args.field (integer_at c.args.octets old) (bits_left c.take_value.new.reader)
    c.in_ok-front.ensures.examined.ok in
    omega (
      arith,
      ap (λ (v : View). v.len) c.in_ok-front.ensures.taken.view,
      some_octets c.args.octets old ok,
    )

pub returns : goal.returns
unfolding field_at
returns c =
    let count = c.args.octets in
    let old = bits_left c.args.reader.now in
    let new = bits_left c.take_value.new.reader in
    let number = c.in_ok-number.number in
    let cut = c.in_ok-front.ensures.taken in
    let read =
    read_integer count old new number
    (is_there c.args.field (integer_at count old) new c.in_ok-front.ensures.examined.ok) cut.rest
    (λ octets is are. c.in_ok-number.ensures.value octets (is ∙ sym cut.list) are) in
    record {
      read = record {
        field = fields.Integer number;
        appended = c.push_reserved.ensures.items;
        read = read;
        place = tt;
        rest = λ list s. rw (length-read_integer count old new number read list s) cut.moved;
      };
      len = c.push_reserved.ensures.len;
      capacity = c.push_reserved.ensures.capacity;
      err = tt;
    }
