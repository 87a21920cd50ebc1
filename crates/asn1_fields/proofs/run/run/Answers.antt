use Rattle.std.proofs.Common.{refl}
use Rattle.field_lines.specs.Answer.{answer_in}
use Rattle.asn1_fields.proofs.run.run.Goals as goal

pub returns-clause-end : goal.returns-clause-end
returns-clause-end g c = c.in_ok-text.ensures.end

pub returns-clause-status : goal.returns-clause-status
returns-clause-status g c = c.in_ok-answer.ensures.status

pub returns-clause-answer : goal.returns-clause-answer
returns-clause-answer g c = (
  c.as_slice.result.now,
  answer_in c.in_ok-answer.answer,
  rw c.as_slice.ensures.value c.in_ok-text.ensures.text,
  c.in_ok-answer.ensures.answer,
  rw (← c.as_bytes.ensures.value) c.in_ok-write_all.ensures.written,
  refl,
)
