use Rattle.std.proofs.Common.{◌≡◌, ℕ, ◌+◌, ◌-◌, subst, arith}
use Rattle.asn1_x691.specs.Fields.{small_length}
use Rattle.asn1_x691_writers.specs.Written.{IsWritten}
use Rattle.asn1_x691_writers.specs.LengthSteps.{length_in_six, length_above_64}
use Rattle.asn1_x691_writers.proofs.lengths.put_small_length.Goals as goal

pub returns-then-n-le64 : goal.returns-then-n-le64
returns-then-n-le64 c node =
    let e : c.args.n - 1 + 1 ≡ c.args.n = omega (arith, c.requires.some) in
    subst (λ (n : ℕ). IsWritten c.args.is_aligned (small_length c.args.is_aligned node) n c.args.octets.now c.args.at c.put_number.new.octets
    c.put_number.result) e
    (length_in_six c.args.is_aligned node (c.args.n - 1) c.args.octets.now c.put_number.new.octets c.args.at c.put_number.result
    (omega (arith, c.if-n-le64.true)) c.put_number.ensures)

pub returns : goal.returns
returns c node =
    length_above_64 c.args.is_aligned node c.args.n c.args.octets.now c.put_number-after.new.octets c.put_length.new.octets c.args.at
    c.put_number-after.result c.put_length.result c.put_number-after.ensures c.if-n-le64.false (c.put_length.ensures node)
