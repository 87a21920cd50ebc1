use Rattle.std.proofs.Common.{refl}
use Rattle.asn1_x690_writers.specs.TextSteps.{plain_written}
use Rattle.asn1_x690_writers.proofs.texts.put_characters.Goals as goal

pub returns-then-are_plain : goal.returns-then-are_plain
returns-then-are_plain c =
    let a = c.args in
    plain_written a.table.now a.source.now a.width a.text (c.if-are_plain.ensures refl) a.octets.now a.at c.put_span.new.octets c.put_span.result
    c.requires.whole c.put_span.ensures
