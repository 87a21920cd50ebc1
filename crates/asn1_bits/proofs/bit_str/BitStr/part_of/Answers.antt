use Rattle.std.proofs.Common.{◌≡◌, ℕ, ◌+◌, ◌*◌, ◌/◌, ◌%◌, take, drop, ap, arith}
use Rattle.asn1_bits.specs.Bits.{bits}
use Rattle.asn1_bits.specs.View.{list_of}
use Rattle.asn1_bits.proofs.bit_str.BitStr.part_of.Goals as goal

pub returns-clause-list : goal.returns-clause-list
unfolding list_of
returns-clause-list c =
    let place : 8 * (c.args.first / 8) + c.args.first % 8 ≡ c.args.first = omega arith in
    ap (λ (k : ℕ). take c.args.len (drop k (bits c.args.octets.now))) place
