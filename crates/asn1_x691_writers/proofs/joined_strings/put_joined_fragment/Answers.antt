use Rattle.std.proofs.Common.{◌*◌}
use Rattle.asn1_bits.specs.Bits.{bits}
use Rattle.asn1_schema.specs.PiecesOfParts.{bits_at}
use Rattle.asn1_x691_fields.specs.Steps.{front_length}
use Rattle.asn1_x691_writers.specs.Joined.{bits_in}
use Rattle.asn1_x691_writers.specs.StringSteps.{raw_written}
use Rattle.asn1_x691_writers.proofs.joined_strings.put_joined_fragment.Goals as goal

pub returns : goal.returns
returns c node =
    let n = 16384 * c.args.times in
    let list = bits_in (bits c.args.source.now) c.args.joined.now in
    record {
      between = c.put_fragment_number-after.new.octets;
      at = c.put_fragment_number-after.result;
      count = c.put_fragment_number-after.ensures node;
      units = raw_written c.args.is_aligned (c.args.joined.now.unit * n) node (bits_at list c.args.from (c.args.joined.now.unit * n)) c.put_fragment_number-after.new.octets c.put_joined.new.octets
          c.put_fragment_number-after.result c.put_joined.result (front_length list c.args.from (c.args.joined.now.unit * n) c.requires.within) c.put_joined.ensures;
    }
