use Rattle.std.proofs.Common.{◌<◌, ◌-◌, ◌%◌, arith}
use Rattle.asn1_bits.specs.Laws.DigitLaws.{bits-set, or_mask_same, or_mask_other, and_mask_same, and_mask_other}
use Rattle.asn1_bits.proofs.single_bits.set_bit.Goals as goal
use Rattle.asn1_bits.proofs.single_bits.set_bit.Goals.{then-bit, else-bit}

pub returns : goal.returns
returns c =
    let octets = c.args.octets.now in
    let k = 7 - c.args.i % 8 in
    let small : k < 8 = omega arith in
    elim c.if-bit.branch [
      | then-bit w ↦
          rw (w.octets-is, w.if-bit.true)
          (bits-set octets c.args.i _ _ c.requires (or_mask_same _ k small)
          (λ j h ne. or_mask_other _ k j small ne))
      | else-bit w ↦
          rw (w.octets-is, w.if-bit.false)
          (bits-set octets c.args.i _ _ c.requires (and_mask_same _ k small)
          (λ j h ne. and_mask_other _ k j small h ne))
    ]
