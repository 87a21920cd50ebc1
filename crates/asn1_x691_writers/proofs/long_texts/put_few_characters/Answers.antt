use Rattle.asn1_x691.specs.Fragments.{units_octets}
use Rattle.asn1_x691_writers.specs.FieldSteps.{octet_written}
use Rattle.asn1_x691_writers.proofs.long_texts.put_few_characters.Goals as goal

pub returns : goal.returns
returns c node =
    let a = c.args.alphabet.now in
    record {
      between = c.put_length_octets-after.new.octets;
      at = c.put_length_octets-after.result;
      count = octet_written node (units_octets node) c.args.text.count c.args.octets.now c.put_start-start.new.octets
          c.put_length_octets-after.new.octets c.args.at c.put_start-start.result c.put_length_octets-after.result a.is_aligned
          c.put_start-start.ensures (c.put_length_octets-after.ensures.units a.is_aligned node);
      units = c.put_characters.ensures node;
    }
