use Rattle.asn1_bits.specs.BitReader.{bits_left}
use Rattle.std.proofs.Common.{arith}
use Rattle.asn1_integer.specs.Laws.WordLaws.{word_value}
use Rattle.asn1_integer.proofs.read_integer.read_signed.Goals as goal

pub returns-then-width-le128-clause-value : goal.returns-then-width-le128-clause-value
returns-then-width-le128-clause-value c = λ octets is are.
    word_value octets (bits_left c.args.reader.now) c.first_u128.result c.len-width.result c.integer_from_word.result are is
    c.len-width.ensures.list c.first_u128.ensures.number (omega (arith, c.requires.some, c.len-width.ensures.len))
    c.integer_from_word.ensures.low
    c.integer_from_word.ensures.high
