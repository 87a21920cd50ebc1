use Rattle.std.proofs.Common.{◌≡◌, ◌+◌, ◌*◌, ◌-◌, inl, inr, refl, arith}
use Rattle.asn1_bits.specs.Bits.{bits}
use Rattle.asn1_bits.specs.Laws.DigitLaws.{length-bits}
use Rattle.asn1_schema.specs.Encodings.{number, anywhere}
use Rattle.asn1_schema.specs.PiecesOfParts.{bits_at}
use Rattle.asn1_x691.specs.declared.fault.FaultKind.TheVariants.{Short}
use Rattle.asn1_x691.specs.Fragments.{units_octets, units_after}
use Rattle.asn1_x691_fields.specs.Steps.{front_length}
use Rattle.asn1_x691_writers.specs.Written.{IsWritten}
use Rattle.asn1_x691_writers.specs.FieldSteps.{number_written, then_constant, octet_written}
use Rattle.asn1_x691_writers.specs.StringSteps.{raw_written}
use Rattle.asn1_x691_writers.proofs.strings.put_fragment.Goals as goal

pub returns : goal.returns
returns c node =
    let aligned = c.args.is_aligned in
    let times = c.args.times in
    let n = 16384 * times in
    let was = c.args.octets.now in
    let mid = c.put_start-start.new.octets in
    let next = c.put_number-after.new.octets in
    let now = c.put_bits.new.octets in
    let list = bits c.args.source.now in
    let size = front_length list c.args.from (c.args.unit * n) (omega (arith, c.requires.within, length-bits c.args.source.now)) in
    let same : n ≡ 16384 * (192 + times - 192) = omega arith in
    let first : IsWritten aligned (anywhere (units_octets node)) n mid c.put_start-start.result next c.put_number-after.result =
    then_constant aligned mid next c.put_start-start.result c.put_number-after.result (number 8 Short node) (λ first n. n)
    (λ first. units_after node first) (192 + times) n
    (number_written aligned 8 node Short (192 + times) mid next c.put_start-start.result c.put_number-after.result
    (omega (arith, c.requires.few)) c.put_number-after.ensures)
    (inr (
      omega arith,
      inr (
        omega arith,
        inl ((omega (arith, c.requires.some), omega (arith, c.requires.few)), (same, refl)),
      ),
    )) in
    record {
      between = next;
      at = c.put_number-after.result;
      count = octet_written node (units_octets node) n was mid next c.args.at c.put_start-start.result c.put_number-after.result aligned
          c.put_start-start.ensures first;
      units = raw_written aligned (c.args.unit * n) node (bits_at list c.args.from (c.args.unit * n)) next now
          c.put_number-after.result c.put_bits.result size c.put_bits.ensures;
    }
