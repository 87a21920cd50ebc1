use Rattle.std.proofs.Common.{◌++◌, arith}
use Rattle.std.proofs.lemmas.List.{length-append}
use Rattle.asn1_bits.specs.Bits.{bits, digits}
use Rattle.asn1_bits.specs.Laws.DigitLaws.{length-digits}
use Rattle.asn1_oid.specs.Writing.{last_octets}
use Rattle.asn1_x691_writers.specs.GrownSteps.{grown_both}
use Rattle.asn1_x690_writers.specs.HeaderSteps.{long_encodes, has_digits, digits_whole}
use Rattle.asn1_x690_writers.proofs.identifiers.put_long_identifier.Goals as goal

pub returns : goal.returns
returns c =
    let a = c.args in
    let f = c.first_octet in
    let k = c.digit_count-count in
    let n = a.id.tag.number in
    let list = bits (last_octets n k.result) in
    record {
      list = digits f.result 8 ++ list;
      encodes = long_encodes a.id f.result f.ensures.below f.ensures.class f.ensures.form f.ensures.low c.requires.long k.result
          (has_digits n k.result k.ensures.some k.ensures.holds k.ensures.least);
      whole = omega (arith, length-append (digits f.result 8) list, length-digits f.result 8, digits_whole n k.result);
      grown = grown_both a.octets.now c.put_number-next.new.octets c.put_digits.new.octets a.at c.put_number-next.result c.put_digits.result
          (digits f.result 8) list c.put_number-next.ensures c.put_digits.ensures;
    }
