use Rattle.std.proofs.Common.{◌≡◌, ℕ, ◌+◌, ◌%◌, ◌-◌, ◌<◌, ◌++◌, List, Bool, refl, arith}
use Rattle.std.proofs.lemmas.List.{length-append}
use Rattle.asn1_bits.specs.Bits.{bits, digits}
use Rattle.asn1_bits.specs.Laws.DigitLaws.{length-digits}
use Rattle.asn1_schema.specs.PiecesOfParts.{bits_of}
use Rattle.asn1_x691_writers.specs.GrownSteps.{grown_both}
use Rattle.asn1_x690_writers.specs.PutSteps.{span_length}
use Rattle.asn1_x690_writers.proofs.bit_strings.put_string.Goals as goal

pub returns : goal.returns
returns c =
    let a = c.args in
    let u : ℕ = (8 - a.span.count % 8) % 8 in
    let x : List Bool = bits_of (bits a.source.now) a.span in
    let front = c.put_number-first in
    let middle = c.put_span-end in
    let back = c.put_number in
    let size = span_length a.source.now a.span c.requires.inside in
    let few : u < 8 = omega arith in
    let whole : (a.span.count + u) % 8 ≡ 0 = omega arith in
    record {
      list = digits u 8 ++ (x ++ digits 0 u);
      encodes = record { unused = u; few = few; whole = omega (arith, size, whole); are = refl };
      whole = omega (
        arith,
        size,
        whole,
        length-append (digits u 8) (x ++ digits 0 u),
        length-append x (digits 0 u),
        length-digits u 8,
        length-digits 0 u,
      );
      grown = grown_both a.octets.now front.new.octets back.new.octets a.at front.result back.result (digits u 8) (x ++ digits 0 u)
          front.ensures
          (grown_both front.new.octets middle.new.octets back.new.octets front.result middle.result back.result x (digits 0 u)
          middle.ensures back.ensures);
    }
