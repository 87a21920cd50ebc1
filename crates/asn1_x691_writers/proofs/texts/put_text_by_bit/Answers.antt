use Rattle.asn1_x691_fields.specs.Characters.{rows_of}
use Rattle.asn1_x691_writers.proofs.texts.put_text_by_bit.Goals as goal

pub returns-then-is_of_root : goal.returns-then-is_of_root
returns-then-is_of_root c = c.put_text_after_zero.ensures (rows_of c.args.table.now c.args.whole)

pub returns : goal.returns
returns c = c.put_text_after_one.ensures (rows_of c.args.table.now c.args.alphabet)
