use Rattle.std.proofs.Common.{rules, ◌∙◌, ap, ℕ, ◌+◌}
use Rattle.asn1_c.proofs.WritingLemmas.{as_many, all_length, none_named, not_past}
use Rattle.asn1_c.proofs.writing.asn1v_write_fields.Goals as goal

pub returns-then-shapes-fields-clause-room : goal.returns-then-shapes-fields-clause-room
returns-then-shapes-fields-clause-room c = λ here. (
  λ code. absurd cc,
  λ x. absurd (c.if-shapes-fields.true
      (as_many c.args.source.now c.args.alphabets.now c.args.shapes.now c.args.fields.now x.0 x.1)),
)

pub returns-then-after-clause-needed : goal.returns-then-after-clause-needed
returns-then-after-clause-needed c = λ code list a. (
  c.with.ensures.code,
  c.with.ensures.number
      ∙ ap (λ (k : ℕ). c.args.position + k)
      (c.in-Ok.ensures.named.2
      ∙ all_length c.args.source.now c.args.alphabets.now c.args.shapes.now c.args.fields.now c.in-Ok.ensures.named.0
      list c.in-Ok.ensures.named.1 a),
)

pub returns-else-after-target-clause-room : goal.returns-else-after-target-clause-room
returns-else-after-target-clause-room c = λ here. (
  λ code. absurd cc,
  λ x. absurd (not_past c.args.source.now c.args.alphabets.now c.args.shapes.now c.args.fields.now
      c.in-Ok.ensures.named.0 x.0 c.args.position _ c.in-Ok.length c.in-Ok.ensures.named.1 x.1
      c.in-Ok.ensures.named.2 c.if-after-target.false c.if-after.false x.2),
)

pub returns-in-Err-clause-room : goal.returns-in-Err-clause-room
returns-in-Err-clause-room c = λ here. (
  λ code. absurd (c.in-Err.ensures.codes.1 code),
  λ x. absurd (none_named c.args.source.now c.args.alphabets.now c.args.shapes.now c.args.fields.now c.in-Err.found x.0
      c.in-Err.ensures.refused x.1),
)

pub returns-else-after-target-clause-written : goal.returns-else-after-target-clause-written
returns-else-after-target-clause-written c = search rules
