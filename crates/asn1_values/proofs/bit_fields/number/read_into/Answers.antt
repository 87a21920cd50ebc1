use Rattle.std.proofs.Common.{refl}
use Rattle.asn1_values.specs.declared.bit_fields.field.Field.TheVariants as fields
use Rattle.asn1_values.specs.Fields as plain
use Rattle.asn1_values.proofs.OneSpelling.{length-spelled}
use Rattle.asn1_values.proofs.bit_fields.number.read_into.Goals as goal

pub returns : goal.returns
returns c =
    let width = c.args.width in
    let value = c.in_ok-value.value in
    let got = c.in_ok-value.ensures in
    record {
      read = record {
        field = fields.Number value width;
        appended = c.push_reserved.ensures.items;
        read = got.read;
        place = tt;
        rest =
            λ list s. rw (length-spelled (plain.OfNumber width) (plain.Number value width) list refl s) got.moved;
      };
      len = c.push_reserved.ensures.len;
      capacity = c.push_reserved.ensures.capacity;
      err = tt;
    }
