use Rattle.std.proofs.Common.{◌*◌, arith}
use Rattle.asn1_bits.specs.Bits.{bits}
use Rattle.asn1_bits.specs.Laws.DigitLaws.{length-bits}
use Rattle.asn1_schema.specs.PiecesOfParts.{bits_at}
use Rattle.asn1_x691.specs.Fragments.{units_octets}
use Rattle.asn1_x691_fields.specs.Steps.{front_length}
use Rattle.asn1_x691_writers.specs.FieldSteps.{octet_written}
use Rattle.asn1_x691_writers.specs.StringSteps.{raw_written}
use Rattle.asn1_x691_writers.proofs.strings.put_few.Goals as goal

pub returns : goal.returns
returns c node =
    let aligned = c.args.is_aligned in
    let n = c.args.count in
    let was = c.args.octets.now in
    let mid = c.put_start-start.new.octets in
    let next = c.put_length_octets-after.new.octets in
    let now = c.put_bits.new.octets in
    let list = bits c.args.source.now in
    let size = front_length list c.args.from (c.args.unit * n) (omega (arith, c.requires.within, length-bits c.args.source.now)) in
    record {
      between = next;
      at = c.put_length_octets-after.result;
      count = octet_written node (units_octets node) n was mid next c.args.at c.put_start-start.result c.put_length_octets-after.result aligned
          c.put_start-start.ensures (c.put_length_octets-after.ensures.units aligned node);
      units = raw_written aligned (c.args.unit * n) node (bits_at list c.args.from (c.args.unit * n)) next now
          c.put_length_octets-after.result c.put_bits.result size c.put_bits.ensures;
    }
