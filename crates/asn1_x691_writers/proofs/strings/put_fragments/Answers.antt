use Rattle.std.proofs.Common.{arith}
use Rattle.asn1_bits.specs.Bits.{bits}
use Rattle.asn1_x691_writers.proofs.FragmentLemmas.{fragmented_first, fragmented_next, fragmented_last, units_before}
use Rattle.asn1_x691_writers.proofs.strings.put_fragments.Goals as goal

pub loop-left-init : goal.loop-left-init
loop-left-init c =
    fragmented_first c.args.is_aligned c.args.unit (bits c.args.source.now) c.args.octets.now c.args.at c.args.from c.args.count
    (omega arith)

pub put_fragment-next-requires-clause-within : goal.put_fragment-next-requires-clause-within
put_fragment-next-requires-clause-within c =
    let le = units_before c.args.is_aligned c.args.unit (bits c.args.source.now) c.args.octets.now c.args.at c.args.from c.args.count
    c.loop-left.octets c.loop-left.octets c.loop-left.next c.loop-left.next c.loop-left.first c.loop-left.left c.loop-left-test.true in
    omega (arith, le, c.loop-left.invariant.size, c.requires.within)

pub overflow_mul-first : goal.overflow_mul-first
overflow_mul-first c =
    let le = units_before c.args.is_aligned c.args.unit (bits c.args.source.now) c.args.octets.now c.args.at c.args.from c.args.count
    c.loop-left.octets c.loop-left.octets c.loop-left.next c.loop-left.next c.loop-left.first c.loop-left.left c.loop-left-test.true in
    omega (arith, le, c.loop-left.invariant.size, c.requires.within, c.requires.source)

pub overflow_add-first : goal.overflow_add-first
overflow_add-first c =
    let le = units_before c.args.is_aligned c.args.unit (bits c.args.source.now) c.args.octets.now c.args.at c.args.from c.args.count
    c.loop-left.octets c.loop-left.octets c.loop-left.next c.loop-left.next c.loop-left.first c.loop-left.left c.loop-left-test.true in
    omega (arith, le, c.loop-left.invariant.size, c.requires.within, c.requires.source)

pub loop-left-preserved : goal.loop-left-preserved
loop-left-preserved c =
    fragmented_next c.args.is_aligned c.args.unit (bits c.args.source.now) c.args.octets.now c.args.at c.args.from c.args.count
    c.loop-left.octets c.put_fragment-next.new.octets c.loop-left.next c.put_fragment-next.result c.loop-left.first c.loop-left.left
    c.loop-left-test.true c.loop-left.invariant c.put_fragment-next.ensures

pub put_last_units-requires-clause-within : goal.put_last_units-requires-clause-within
put_last_units-requires-clause-within c = omega (arith, c.loop-left.invariant.size, c.requires.within)

pub returns : goal.returns
returns c node =
    fragmented_last c.args.is_aligned c.args.unit (bits c.args.source.now) c.args.octets.now c.args.at c.args.from c.args.count
    c.loop-left.octets c.put_last_units.new.octets c.loop-left.next c.loop-left.first c.loop-left.left c.put_last_units.result node
    c.loop-left.invariant c.put_last_units.ensures
