use Rattle.std.proofs.Common.{sym}
use Rattle.asn1_bits.specs.Bits.{bits}
use Rattle.asn1_x691_writers.specs.TextSteps.{length_text}
use Rattle.asn1_x691_writers.proofs.characters.PartCharactersNumberSource.count.Goals as goal

pub returns : goal.returns
returns c =
    let p = c.args.self.now in
    sym (length_text p.table.now (bits p.source.now) p.text)
