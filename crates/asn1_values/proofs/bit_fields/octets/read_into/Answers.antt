use Rattle.std.proofs.Common.{◌≡◌, ◌*◌, length, arith, ap, subst, ◌∙◌}
use Rattle.std.specs.Prelude.{◌↔◌}
use Rattle.std.proofs.lemmas.List.{length-take}
use Rattle.asn1_bits.specs.BitReader.{bits_left}
use Rattle.asn1_bits.specs.Laws.DigitLaws.{length-bits}
use Rattle.asn1_bits.specs.Octets.{octets_in, IsBorrowed}
use Rattle.asn1_bits.specs.View.{View, IsAligned}
use Rattle.asn1_values.specs.declared.bit_fields.field.Field.TheVariants as fields
use Rattle.asn1_values.specs.Fields as plain
use Rattle.asn1_values.proofs.HeadlineLemmas.{read_octets}
use Rattle.asn1_values.proofs.OneSpelling.{length-spelled}
use Rattle.asn1_values.proofs.bit_fields.octets.read_into.Goals as goal

pub returns : goal.returns
returns c =
    let count = c.args.count in
    let old = bits_left c.args.reader.now in
    let octets = octets_in c.in_ok-octets.octets in
    let got = c.in_ok-octets.ensures in
    let cut = c.in_ok-take_value.ensures.taken in
    let are = got.bits ∙ cut.list in
    let shape : length octets ≡ count =
    omega (arith, length-bits octets, ap length are, length-take (8 * count) old, cut.enough) in
    let aligned = subst (λ (v : View). IsBorrowed c.in_ok-octets.octets ↔ IsAligned v) cut.view got.borrowed in
    record {
      read = record {
        field = fields.Octets c.in_ok-octets.octets;
        appended = c.push_reserved.ensures.items;
        read = read_octets count old (bits_left c.take_value.new.reader) octets cut.enough cut.rest are got.octets;
        place = (
          λ is. omega (arith, (aligned.0 is).0),
          λ e. aligned.1 (omega (arith, e), omega arith),
        );
        rest =
            λ list s. rw (length-spelled (plain.OfOctets count) (plain.Octets octets) list shape s) cut.moved;
      };
      len = c.push_reserved.ensures.len;
      capacity = c.push_reserved.ensures.capacity;
      err = tt;
    }
