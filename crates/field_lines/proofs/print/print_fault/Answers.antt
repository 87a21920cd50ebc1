use Rattle.std.proofs.Common.{append_assoc}
use Rattle.field_lines.proofs.AnswerLemmas.{same_text}
use Rattle.field_lines.proofs.print.print_fault.Goals as goal

pub returns-in-NumberWidth : goal.returns-in-NumberWidth
returns-in-NumberWidth c =
    rw c.in-NumberWidth.is (same_text c.format.result _ _ c.format.ensures.ok (simp append_assoc))

pub returns-in-Integer : goal.returns-in-Integer
returns-in-Integer c =
    rw c.in-Integer.is (same_text c.format-in-Integer.result _ _ c.format-in-Integer.ensures.ok (simp append_assoc))

pub returns-in-Short : goal.returns-in-Short
returns-in-Short c =
    rw c.in-Short.is (same_text c.format-in-Short.result _ _ c.format-in-Short.ensures.ok (simp append_assoc))

pub returns-in-Character : goal.returns-in-Character
returns-in-Character c =
    rw c.in-Character.is (same_text c.format-in-Character.result _ _ c.format-in-Character.ensures.ok
    (simp append_assoc))

pub returns-in-Length : goal.returns-in-Length
returns-in-Length c =
    rw c.in-Length.is (same_text c.format-in-Length.result _ _ c.format-in-Length.ensures.ok (simp append_assoc))

pub returns-in-Identifier : goal.returns-in-Identifier
returns-in-Identifier c =
    rw c.in-Identifier.is (same_text c.format-in-Identifier.result _ _ c.format-in-Identifier.ensures.ok
    (simp append_assoc))

pub returns-in-Arc : goal.returns-in-Arc
returns-in-Arc c = rw c.in-Arc.is (same_text c.format-in-Arc.result _ _ c.format-in-Arc.ensures.ok (simp append_assoc))
