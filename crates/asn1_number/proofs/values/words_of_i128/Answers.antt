use Rattle.std.proofs.Common.{◌^◌, ap, ◌∙◌, of_z, to_z, to_z-of_z}
use Rattle.std.proofs.Math.Nat.{div-add-mod'}
use Rattle.std.specs.Int.{cast_signed, w128}
use Rattle.asn1_number.proofs.values.words_of_i128.Goals as goal

pub returns : goal.returns
returns c =
    ap (cast_signed w128) (div-add-mod' c.cast_unsigned-bits.result (2 ^ 64))
    ∙ (ap (to_z w128) (c.cast_unsigned-bits.ensures ∙ ap (of_z w128) (to_z-of_z c.ranges.number))
    ∙ to_z-of_z c.ranges.number)
