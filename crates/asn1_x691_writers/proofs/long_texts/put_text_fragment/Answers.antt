use Rattle.std.proofs.Common.{◌≡◌, ℕ, ◌+◌, ◌*◌, ◌-◌, inl, inr, refl, sym, subst, arith}
use Rattle.asn1_schema.specs.Encodings.{number, anywhere}
use Rattle.asn1_x691.specs.declared.fault.FaultKind.TheVariants.{Short}
use Rattle.asn1_x691.specs.Fragments.{units_octets, units_after, units_next}
use Rattle.asn1_x691_writers.specs.Written.{IsWritten}
use Rattle.asn1_x691_writers.specs.FieldSteps.{number_written, then_constant, octet_written}
use Rattle.asn1_x691_writers.proofs.long_texts.put_text_fragment.Goals as goal

pub returns : goal.returns
returns c node =
    let a = c.args.alphabet.now in
    let aligned = a.is_aligned in
    let times = c.args.times in
    let n = 16384 * times in
    let was = c.args.octets.now in
    let mid = c.put_start-start.new.octets in
    let next = c.put_number-after.new.octets in
    let same : n ≡ 16384 * (192 + times - 192) = omega arith in
    let first : IsWritten aligned (anywhere (units_octets node)) n mid c.put_start-start.result next c.put_number-after.result =
    then_constant aligned mid next c.put_start-start.result c.put_number-after.result (number 8 Short node) (λ first n. n)
    (λ first. units_after node first) (192 + times) n
    (number_written aligned 8 node Short (192 + times) mid next c.put_start-start.result c.put_number-after.result
    (omega (arith, c.requires.few)) c.put_number-after.ensures)
    (inr (
      omega arith,
      inr (
        omega arith,
        inl ((omega (arith, c.requires.some), omega (arith, c.requires.few)), (same, refl)),
      ),
    )) in
    record {
      between = next;
      at = c.put_number-after.result;
      count = subst (λ (k : ℕ). IsWritten aligned (units_next aligned node) k was c.args.at next c.put_number-after.result)
          (sym c.requires.count)
          (octet_written node (units_octets node) n was mid next c.args.at c.put_start-start.result c.put_number-after.result aligned
          c.put_start-start.ensures first);
      units = c.put_characters.ensures node;
    }
