use Rattle.std.proofs.Common.{◌≡◌, ◌+◌, ◌*◌, ◌-◌, inl, inr, refl, arith}
use Rattle.asn1_schema.specs.Encodings.{number, anywhere}
use Rattle.asn1_x691.specs.declared.fault.FaultKind.TheVariants.{Short}
use Rattle.asn1_x691.specs.Fragments.{units_octets, units_after}
use Rattle.asn1_x691_writers.specs.Written.{IsWritten}
use Rattle.asn1_x691_writers.specs.FieldSteps.{number_written, then_constant, octet_written}
use Rattle.asn1_x691_writers.proofs.lengths.put_fragment_number.Goals as goal

pub returns : goal.returns
returns c node =
    let aligned = c.args.is_aligned in
    let times = c.args.times in
    let n = 16384 * times in
    let mid = c.put_start-octet.new.octets in
    let next = c.put_number.new.octets in
    let same : n ≡ 16384 * (192 + times - 192) = omega arith in
    let first : IsWritten aligned (anywhere (units_octets node)) n mid c.put_start-octet.result next c.put_number.result =
    then_constant aligned mid next c.put_start-octet.result c.put_number.result (number 8 Short node) (λ first n. n)
    (λ first. units_after node first) (192 + times) n
    (number_written aligned 8 node Short (192 + times) mid next c.put_start-octet.result c.put_number.result
    (omega (arith, c.requires.few)) c.put_number.ensures)
    (inr (
      omega arith,
      inr (
        omega arith,
        inl ((omega (arith, c.requires.some), omega (arith, c.requires.few)), (same, refl)),
      ),
    )) in
    octet_written node (units_octets node) n c.args.octets.now mid next c.args.at c.put_start-octet.result c.put_number.result aligned
    c.put_start-octet.ensures first
