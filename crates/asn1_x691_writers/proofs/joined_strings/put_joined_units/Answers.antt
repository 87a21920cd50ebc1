use Rattle.std.proofs.Common.{◌^◌, ◌<◌, length, arith}
use Rattle.asn1_bits.specs.Bits.{bits}
use Rattle.asn1_bits.specs.Laws.DigitLaws.{length-bits}
use Rattle.asn1_x691_writers.specs.Joined.{bits_in}
use Rattle.asn1_x691_writers.specs.JoinedSteps.{few_in}
use Rattle.asn1_x691_writers.proofs.FragmentLemmas.{fragmented_first, fragmented_next, fragmented_last, units_before}
use Rattle.asn1_x691_writers.proofs.joined_strings.put_joined_units.Goals as goal

pub loop-left-init : goal.loop-left-init
loop-left-init c =
    fragmented_first c.args.is_aligned c.args.joined.now.unit (bits_in (bits c.args.source.now) c.args.joined.now) c.args.octets.now c.args.at 0 c.args.count
    (omega arith)

pub put_joined_fragment-next-requires-clause-within : goal.put_joined_fragment-next-requires-clause-within
put_joined_fragment-next-requires-clause-within c =
    let le = units_before c.args.is_aligned c.args.joined.now.unit (bits_in (bits c.args.source.now) c.args.joined.now) c.args.octets.now c.args.at 0 c.args.count
    c.loop-left.octets c.loop-left.octets c.loop-left.next c.loop-left.next c.loop-left.first c.loop-left.left c.loop-left-test.true in
    omega (arith, le, c.loop-left.invariant.size, c.requires.all)

pub overflow_add-first : goal.overflow_add-first
overflow_add-first c =
    let le = units_before c.args.is_aligned c.args.joined.now.unit (bits_in (bits c.args.source.now) c.args.joined.now) c.args.octets.now c.args.at 0 c.args.count
    c.loop-left.octets c.loop-left.octets c.loop-left.next c.loop-left.next c.loop-left.first c.loop-left.left c.loop-left-test.true in
    let few : length (bits c.args.source.now) < 2 ^ 64 = omega (arith, length-bits c.args.source.now, c.requires.source) in
    let most = few_in (bits c.args.source.now) c.args.joined.now c.requires.inside few in
    omega (arith, le, c.loop-left.invariant.size, c.requires.all, most)

pub loop-left-preserved : goal.loop-left-preserved
loop-left-preserved c =
    fragmented_next c.args.is_aligned c.args.joined.now.unit (bits_in (bits c.args.source.now) c.args.joined.now) c.args.octets.now c.args.at 0 c.args.count
    c.loop-left.octets c.put_joined_fragment-next.new.octets c.loop-left.next c.put_joined_fragment-next.result c.loop-left.first c.loop-left.left
    c.loop-left-test.true c.loop-left.invariant c.put_joined_fragment-next.ensures

pub put_last_joined-requires-clause-within : goal.put_last_joined-requires-clause-within
put_last_joined-requires-clause-within c = omega (arith, c.loop-left.invariant.size, c.requires.all)

pub returns : goal.returns
returns c node =
    fragmented_last c.args.is_aligned c.args.joined.now.unit (bits_in (bits c.args.source.now) c.args.joined.now) c.args.octets.now c.args.at 0 c.args.count
    c.loop-left.octets c.put_last_joined.new.octets c.loop-left.next c.loop-left.first c.loop-left.left c.put_last_joined.result node
    c.loop-left.invariant c.put_last_joined.ensures
