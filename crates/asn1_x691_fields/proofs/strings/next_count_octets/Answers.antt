use Rattle.std.proofs.Common.{arith}
use Rattle.asn1_bits.specs.Bits.{bits}
use Rattle.asn1_x691_fields.specs.Outcomes.{rest}
use Rattle.asn1_x691_fields.specs.StringSteps.{long_count, fragment_read}
use Rattle.asn1_x691_fields.proofs.strings.next_count_octets.Goals as goal

pub returns-then-first-ge192-clause-read : goal.returns-then-first-ge192-clause-read
returns-then-first-ge192-clause-read c =
    fragment_read (bits c.args.octets.now) c.args.state.now c.next_word.new.state c.fragment_of.new.state c.args.node c.in_ok-first.first
    c.next_word.ensures.onward c.in_ok-first.ensures.read c.if-first-ge192.true c.fragment_of.result c.fragment_of.ensures.some
    c.fragment_of.ensures.none c.fragment_of.ensures.at c.fragment_of.ensures.end

pub returns-clause-read : goal.returns-clause-read
returns-clause-read c =
    let list = bits c.args.octets.now in
    long_count c.args.node c.in_ok-first.first c.in_ok-second.second (rest list c.args.state.now) (rest list c.next_word.new.state)
    (rest list c.next_word-2.new.state) c.in_ok-first.ensures.read c.in_ok-second.ensures.read
    (omega (arith, c.if-first-lt128.false)) (omega (arith, c.if-first-ge192.false)) (omega (arith, c.if-count-lt128.false))
