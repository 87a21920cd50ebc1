use Rattle.std.proofs.Common.{take, drop, arith}
use Rattle.std.proofs.lemmas.List.{length-take}
use Rattle.asn1_bits.specs.Bits.{bits}
use Rattle.asn1_bits.specs.Laws.NumberLaws.{number-below}
use Rattle.asn1_bits.proofs.kernels.read_bits.Goals as goal

pub overflow_cast-result : goal.overflow_cast-result
overflow_cast-result c =
    let l = drop c.args.position (bits c.args.bytes.now) in
    omega (
      arith,
      c.read_wide.ensures,
      number-below (take c.args.width l) 32
          (omega (arith, length-take c.args.width l)),
    )
