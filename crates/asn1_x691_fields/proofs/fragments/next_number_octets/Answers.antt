use Rattle.std.proofs.Common.{arith}
use Rattle.asn1_bits.specs.Bits.{bits}
use Rattle.asn1_x691_fields.specs.Outcomes.{rest}
use Rattle.asn1_x691_fields.specs.StringSteps.{long_count}
use Rattle.asn1_x691_fields.proofs.fragments.next_number_octets.Goals as goal

pub returns-clause-read : goal.returns-clause-read
returns-clause-read c =
    let list = bits c.args.octets.now in
    long_count c.args.node c.in_ok-first.first c.in_ok-second.second (rest list c.args.state.now) (rest list c.next_word.new.state)
    (rest list c.next_word-2.new.state) c.in_ok-first.ensures.read c.in_ok-second.ensures.read
    (omega (arith, c.if-first-lt128.false)) (omega (arith, c.if-first-ge192.false)) (omega (arith, c.if-count-lt128.false))
