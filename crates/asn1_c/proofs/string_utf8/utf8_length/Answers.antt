use Rattle.std.proofs.Common.{ap, length, arith}
use Rattle.std.specs.Prelude.{encode_utf8}
use Rattle.asn1_c.proofs.Utf8Lemmas.{length-utf8_more, three_at_most}
use Rattle.asn1_c.proofs.string_utf8.utf8_length.Goals as goal

pub loop-i-preserved : goal.loop-i-preserved
loop-i-preserved c =
    let inv = c.loop-i.invariant in
    let more = length-utf8_more c.args.name c.args.octets.now c.loop-i.i in
    record {
      total =
          omega (
            arith,
            inv.total,
            c.len_utf8.ensures.len,
            ap (λ k. length (encode_utf8 k)) c.char_of.ensures.character,
            more,
          );
      bounded = omega (arith, inv.bounded, c.len_utf8.ensures.value, three_at_most c.char_of.result c.char_of.ensures.small);
    }
