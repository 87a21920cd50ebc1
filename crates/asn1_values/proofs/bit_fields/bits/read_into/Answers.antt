use Rattle.std.proofs.Common.{◌≡◌, length, ap, ◌∙◌, arith}
use Rattle.std.proofs.lemmas.List.{length-take}
use Rattle.asn1_bits.specs.BitReader.{bits_left}
use Rattle.asn1_bits.specs.BitStr.{bits_of}
use Rattle.asn1_bits.specs.View.{View, list_of}
use Rattle.asn1_values.specs.declared.bit_fields.field.Field.TheVariants as fields
use Rattle.asn1_values.specs.Fields as plain
use Rattle.asn1_values.proofs.HeadlineLemmas.{read_bits}
use Rattle.asn1_values.proofs.OneSpelling.{length-spelled}
use Rattle.asn1_values.proofs.bit_fields.bits.read_into.Goals as goal

pub returns : goal.returns
returns c =
    let n = c.args.length in
    let b = c.bits.result in
    let old = bits_left c.args.reader.now in
    let cut = c.in_ok-front.ensures.taken in
    let taken : bits_of b ≡ bits_left c.in_ok-front.front = ap list_of c.bits.ensures in
    let len : length (bits_of b) ≡ n =
    omega (arith, ap length taken, ap length cut.list, length-take n old, cut.enough) in
    record {
      read = record {
        field = fields.Bits b;
        appended = c.push_reserved.ensures.items;
        read =
            read_bits n old (bits_left c.take_value.new.reader) (bits_of b) cut.enough cut.rest (taken ∙ cut.list);
        place = (
          ap (λ (v : View). v.storage) (c.bits.ensures ∙ cut.view),
          omega (arith, ap (λ (v : View). v.first) (c.bits.ensures ∙ cut.view)),
        );
        rest = λ list s. rw (length-spelled (plain.OfBits n) (plain.Bits (bits_of b)) list len s) cut.moved;
      };
      len = c.push_reserved.ensures.len;
      capacity = c.push_reserved.ensures.capacity;
      err = tt;
    }
