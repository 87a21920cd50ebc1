use Rattle.asn1_bits.specs.BitReader.{bits_left}
use Rattle.asn1_values.proofs.HeadlineLemmas.{refusal, can_begin}
use Rattle.asn1_values.proofs.bit_fields.read.refusal_of.Goals as goal

pub returns-in-Ok : goal.returns-in-Ok
returns-in-Ok c = can_begin (bits_left c.args.reader) c.args.shapes.now c.in-Ok.ensures.ok

pub returns-in-Err : goal.returns-in-Err
returns-in-Err c = refusal (bits_left c.args.reader) c.args.shapes.now c.in-Err.wrong c.in-Err.ensures.err
