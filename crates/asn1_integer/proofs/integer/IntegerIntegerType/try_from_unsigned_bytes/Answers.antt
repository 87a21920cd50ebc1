use Rattle.asn1_integer.proofs.ReadingLemmas.{answers_unsigned}
use Rattle.asn1_integer.proofs.integer.IntegerIntegerType.try_from_unsigned_bytes.Goals as goal

pub returns : goal.returns
returns c =
    answers_unsigned c.args.octets.now c.from_unsigned_octets.result c.from_unsigned_octets.ensures.empty
    c.from_unsigned_octets.ensures.value c.from_unsigned_octets.ensures.memory
