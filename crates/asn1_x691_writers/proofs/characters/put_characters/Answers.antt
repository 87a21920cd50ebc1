use Rattle.asn1_x691_writers.specs.CopiedSteps.{copied_encode}
use Rattle.asn1_x691_writers.proofs.characters.put_characters.Goals as goal

pub returns-then-is_copied : goal.returns-then-is_copied
returns-then-is_copied c node =
    let copied = c.requires.copied c.if-is_copied.true in
    record {
      list = _;
      encodes = λ at alike. copied_encode c.args.alphabet.now c.args.source.now c.args.table.now c.args.text copied c.requires.is node;
      grown = c.put_bits.ensures;
    }
