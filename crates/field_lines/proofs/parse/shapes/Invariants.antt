use Rattle.std.proofs.Common.{map}
use Rattle.std.specs.List.{AllZip}
use Rattle.asn1_values.specs.Plain.{plain_shapes}
use Rattle.field_lines.specs.Input.{IsWord}
use Rattle.field_lines.proofs.parse.shapes.Given as goal

-- the words so far name the shapes so far
abbrev pub invariant-loop-word : goal.invariant-loop-word
invariant-loop-word l = AllZip IsWord (map (λ word. word.now) l.yielded) (plain_shapes l.shapes.items)
