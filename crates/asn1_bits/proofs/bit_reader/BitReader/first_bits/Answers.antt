use Rattle.std.proofs.Common.{rules, ◌^◌, ◌≤◌, arith}
use Rattle.std.proofs.Math.Nat.{pow-le-pow_right}
use Rattle.asn1_bits.proofs.bit_reader.BitReader.first_bits.Goals as goal

pub overflow_cast-result : goal.overflow_cast-result
overflow_cast-result c =
    let top : 2 ^ c.args.width ≤ 2 ^ 32 =
    pow-le-pow_right {n = 2} (omega arith) {i = c.args.width} {j = 32} (omega arith) in
    omega (arith, c.first_u128-number.ensures.below, top)

pub returns-clause-number : goal.returns-clause-number
returns-clause-number c = search rules
