use Rattle.asn1_x691_writers.specs.CopiedSteps.{copied_in}
use Rattle.asn1_x691_writers.proofs.sized_texts.put_copied_text.Goals as goal

pub put_text_of-requires-clause-within : goal.put_text_of-requires-clause-within
put_text_of-requires-clause-within c =
    copied_in c.args.alphabet.now c.args.source.now c.args.table.now c.args.text c.requires.copied
