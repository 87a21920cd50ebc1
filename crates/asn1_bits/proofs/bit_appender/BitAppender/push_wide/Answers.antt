use Rattle.std.proofs.Common.{List, Bool, ◌++◌, ap, ◌∙◌}
use Rattle.asn1_bits.specs.BitAppender.{bits_written}
use Rattle.asn1_bits.proofs.bit_appender.BitAppender.push_wide.Goals as goal

pub returns-clause-written : goal.returns-clause-written
returns-clause-written c =
    c.push_number.ensures.written
    ∙ ap (λ (l : List Bool). bits_written c.args.self.now ++ l) c.lowest_wide.ensures.digits
