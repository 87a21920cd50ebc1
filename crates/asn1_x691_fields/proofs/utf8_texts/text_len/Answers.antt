use Rattle.std.proofs.Common.{arith}
use Rattle.asn1_x691_fields.proofs.utf8_texts.text_len.Goals as goal

pub returns-in-Err-clause-none : goal.returns-in-Err-clause-none
returns-in-Err-clause-none c z k some few u =
    c.in-Err.ensures.cases.1.longest k (omega (arith, z, c.valid_up_to.ensures, some)) u
