use Rattle.std.proofs.Common.{◌≡◌, drop}
use Rattle.asn1_bits.specs.BitReader.{bits_left}
use Rattle.asn1_values.specs.Plain.{plain_shapes}
use Rattle.asn1_values.specs.Walk.{fields_at}
use Rattle.asn1_values.specs.Steps.{past_all}
use Rattle.asn1_values.proofs.bit_fields.skip.skip_all.Given as goal

-- what is still to be examined has the result of all of it
abbrev pub invariant-loop-i : goal.invariant-loop-i
invariant-loop-i l =
    past_all l.i (fields_at (plain_shapes (drop l.i l.shapes)) (bits_left l.left)) ≡ past_all 0
    (fields_at (plain_shapes l.shapes) (bits_left l.initial.left))
