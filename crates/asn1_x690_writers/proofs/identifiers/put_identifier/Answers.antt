use Rattle.std.proofs.Common.{arith}
use Rattle.asn1_bits.specs.Bits.{digits}
use Rattle.asn1_bits.specs.Laws.DigitLaws.{length-digits}
use Rattle.asn1_x690_writers.specs.HeaderSteps.{short_encodes}
use Rattle.asn1_x690_writers.proofs.identifiers.put_identifier.Goals as goal

pub returns-then-id-lt31 : goal.returns-then-id-lt31
returns-then-id-lt31 c =
    let f = c.first_octet in
    record {
      list = digits f.result 8;
      encodes = short_encodes c.args.id.now f.result f.ensures.below f.ensures.class f.ensures.form f.ensures.low c.if-id-lt31.true;
      whole = omega (arith, length-digits f.result 8);
      grown = c.put_octet.ensures;
    }
