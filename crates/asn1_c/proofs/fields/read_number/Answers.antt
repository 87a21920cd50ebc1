use Rattle.std.proofs.Common.{◌∙◌}
use Rattle.asn1_c.proofs.FieldLemmas.{number_read, number_short, number_wide}
use Rattle.asn1_c.proofs.fields.read_number.Goals as goal

pub returns-in-Ok-clause-read : goal.returns-in-Ok-clause-read
returns-in-Ok-clause-read c =
    let read = c.read_wide.ensures in
    let made = c.with_number.ensures in
    number_read c.args.octets.now c.args.at c.args.width c.read_wide.result c.with_number.result
    (made.place.0 ∙ c.in-Ok.ensures.bits.0) (made.place.1 ∙ c.in-Ok.ensures.bits.1) made.number
    c.in-Ok.ensures.enough c.if-width-gt128.false read.below read.digits

pub returns-in-Err-clause-refused : goal.returns-in-Err-clause-refused
returns-in-Err-clause-refused c =
    number_short c.args.octets.now c.args.at c.args.width c.in-Err.refusal c.requires.within c.in-Err.ensures.code.0
    c.in-Err.ensures.short.0 c.in-Err.ensures.short.1
    c.if-width-gt128.false

pub returns-then-width-gt128-clause-refused : goal.returns-then-width-gt128-clause-refused
returns-then-width-gt128-clause-refused c =
    number_wide _ c.args.width c.with.result c.with.ensures.code c.with.ensures.number c.if-width-gt128.true
