use Rattle.std.proofs.Common.{◌≡◌, ◌+◌, ◌-◌, ◌*◌, ◌/◌, ◌%◌, ◌≤◌, length, arith}
use Rattle.asn1_bits.specs.Bits.{bits}
use Rattle.asn1_bits.specs.Laws.DigitLaws.{length-bits}
use Rattle.asn1_bits.proofs.OverwriteLemmas.{zeros-more}
use Rattle.asn1_bits.proofs.clear.clear_bits.Goals as goal

pub returns-then-rest-gt0 : goal.returns-then-rest-gt0
returns-then-rest-gt0 c =
    let old = bits c.args.dst.now in
    let place = c.args.position in
    let front = c.min-front.result in
    let rest = c.args.count - front in
    let next = place + front in
    let n = length-bits c.args.dst.now in
    let within : place ≤ 8 * length c.args.dst.now = omega (arith, c.requires.room) in
    let whole : 8 * (next / 8) ≡ next = omega (arith, c.min-front.ensures, c.if-rest-gt0.true) in
    zeros-more old (bits c.clear_octets.new.dst) _ place (next + rest / 8 * 8) (front + 8 * (rest / 8)) (rest % 8)
    c.args.count
    (zeros-more old (bits c.clear_within.new.dst) (bits c.clear_octets.new.dst) place (8 * (next / 8)) front
    (8 * (rest / 8)) (front + 8 * (rest / 8)) c.clear_within.ensures c.clear_octets.ensures whole (omega arith)
    (omega (arith, n, within)))
    c.clear_within-then-rest-gt0.ensures (omega arith) (omega (arith, c.if-rest-gt0.true)) (omega (arith, n, within))
