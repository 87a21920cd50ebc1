use Rattle.std.proofs.Common.{◌≡◌, ℕ, ◌+◌, ◌*◌, ◌-◌, ◌/◌, ◌%◌, ◌++◌, sym, ap, ◌∙◌, arith}
use Rattle.std.proofs.Math.Nat.{div-add-mod}
use Rattle.asn1_bits.specs.Bits.{bits}
use Rattle.asn1_bits.specs.Laws.DigitLaws.{length-bits}
use Rattle.asn1_schema.specs.PiecesOfParts.{bits_of, bits_at}
use Rattle.asn1_x691_writers.specs.Joined.{bits_in}
use Rattle.asn1_x691_fields.specs.JoinedSteps.{fragment_run}
use Rattle.asn1_x691_writers.specs.JoinedSteps.{after_run, length_in}
use Rattle.asn1_x691_writers.proofs.JoinedLemmas.{index_below, bit_below, up_to}
use Rattle.asn1_x691_writers.proofs.joined.run_at.Goals as goal

pub overflow_cast-index : goal.overflow_cast-index
overflow_cast-index c =
    let i = c.requires.inside in
    let below = index_below c.args.joined.now.unit c.args.joined.now.whole c.args.from i.some (omega (arith, c.if-from-whole.true)) in
    omega (arith, below)

pub overflow_cast-skip : goal.overflow_cast-skip
overflow_cast-skip c =
    let i = c.requires.inside in
    let below = bit_below c.args.joined.now.unit c.args.joined.now.whole c.args.from i.some (omega (arith, c.if-from-whole.true)) in
    omega (arith, below, i.few)

pub overflow_mul-result : goal.overflow_mul-result
overflow_mul-result c =
    let i = c.requires.inside in
    let few = up_to c.args.joined.now.unit c.args.joined.now.whole c.args.from i.some (omega (arith, c.if-from-whole.true)) in
    omega (arith, length-bits c.args.source.now, i.whole, c.requires.source, few)

pub overflow_add-result : goal.overflow_add-result
overflow_add-result c =
    let i = c.requires.inside in
    let few = up_to c.args.joined.now.unit c.args.joined.now.whole c.args.from i.some (omega (arith, c.if-from-whole.true)) in
    omega (arith, length-bits c.args.source.now, i.whole, c.requires.source, few)

pub overflow_add-result-then-from-whole : goal.overflow_add-result-then-from-whole
overflow_add-result-then-from-whole c =
    let i = c.requires.inside in
    let few = up_to c.args.joined.now.unit c.args.joined.now.whole c.args.from i.some (omega (arith, c.if-from-whole.true)) in
    omega (arith, length-bits c.args.source.now, i.whole, c.requires.source, few)

pub overflow_add-result-then-from-whole-2 : goal.overflow_add-result-then-from-whole-2
overflow_add-result-then-from-whole-2 c =
    let i = c.requires.inside in
    let few = up_to c.args.joined.now.unit c.args.joined.now.whole c.args.from i.some (omega (arith, c.if-from-whole.true)) in
    let below = bit_below c.args.joined.now.unit c.args.joined.now.whole c.args.from i.some (omega (arith, c.if-from-whole.true)) in
    omega (arith, length-bits c.args.source.now, i.whole, c.requires.source, few, below)

pub returns-then-from-whole-clause-some : goal.returns-then-from-whole-clause-some
returns-then-from-whole-clause-some c =
    let i = c.requires.inside in
    let below = bit_below c.args.joined.now.unit c.args.joined.now.whole c.args.from i.some (omega (arith, c.if-from-whole.true)) in
    omega (arith, below)

pub returns-then-from-whole-clause-inside : goal.returns-then-from-whole-clause-inside
returns-then-from-whole-clause-inside c =
    let i = c.requires.inside in
    let few = up_to c.args.joined.now.unit c.args.joined.now.whole c.args.from i.some (omega (arith, c.if-from-whole.true)) in
    let below = bit_below c.args.joined.now.unit c.args.joined.now.whole c.args.from i.some (omega (arith, c.if-from-whole.true)) in
    omega (arith, i.whole, few, below)

pub returns-then-from-whole-clause-same : goal.returns-then-from-whole-clause-same
returns-then-from-whole-clause-same c =
    let list = bits c.args.source.now in
    let j = c.args.joined.now in
    let from = c.args.from in
    let i = c.requires.inside in
    let size = j.unit * 65536 in
    let w = from / size in
    let r = from % size in
    let some = index_below j.unit j.whole from i.some (omega (arith, c.if-from-whole.true)) in
    let below = bit_below j.unit j.whole from i.some (omega (arith, c.if-from-whole.true)) in
    let all = div-add-mod from size in
    let e : j.unit * 65536 * w + r ≡ from = omega (arith, all) in
    sym (fragment_run list j.unit j.at j.whole w r (bits_of list j.part ++ (bits_of list j.middle ++ bits_of list j.last)) some
    (omega (arith, below)) i.whole)
    ∙ ap (λ (k : ℕ). bits_at (bits_in list j) k (size - r)) e

pub run_after-requires-clause-within : goal.run_after-requires-clause-within
run_after-requires-clause-within c =
    let e = length_in (bits c.args.source.now) c.args.joined.now c.requires.inside in
    omega (arith, e, c.requires.within, c.if-from-whole.false)

pub returns-clause-same : goal.returns-clause-same
returns-clause-same c =
    let list = bits c.args.source.now in
    let j = c.args.joined.now in
    c.run_after.ensures.same
    ∙ sym (after_run list j c.args.from c.run_after.result.count c.requires.inside (omega (arith, c.if-from-whole.false)))
