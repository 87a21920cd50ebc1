use Rattle.asn1_integer.proofs.ReadingLemmas.{answers_signed}
use Rattle.asn1_integer.proofs.integer.IntegerIntegerType.try_from_bytes.Goals as goal

pub returns : goal.returns
returns c =
    answers_signed c.args.octets.now c.from_signed_octets.result c.from_signed_octets.ensures.empty
    c.from_signed_octets.ensures.value c.from_signed_octets.ensures.memory
