use Rattle.std.proofs.Common.{◌+◌, ◌*◌, ◌-◌, ◌/◌, length, arith}
use Rattle.std.proofs.Math.Nat.{mul-div-le, mul-le-mul_left, lt-div-mul-add}
use Rattle.asn1_bits.specs.Bits.{bits}
use Rattle.asn1_bits.specs.Laws.DigitLaws.{length-bits}
use Rattle.asn1_x691_writers.proofs.JoinedLemmas.{same_after, same_whole, same_part}
use Rattle.asn1_x691_writers.proofs.joined.joined_of.Goals as goal

pub overflow_mul-at : goal.overflow_mul-at
overflow_mul-at c =
    let le = mul-div-le (8 * length c.args.source.now - c.args.fragments.at) (c.args.unit * 65536 + 8) in
    omega (arith, le, c.requires.source)

pub overflow_add-at : goal.overflow_add-at
overflow_add-at c =
    let le = mul-div-le (8 * length c.args.source.now - c.args.fragments.at) (c.args.unit * 65536 + 8) in
    omega (arith, le, c.requires.source, c.if-fragments-size.false)

pub returns-then-fragments-size-clause-same : goal.returns-then-fragments-size-clause-same
returns-then-fragments-size-clause-same c =
    same_after c.args.unit (bits c.args.source.now) c.args.fragments c.clip-middle.result c.clip-last.result c.clip-middle.ensures.same
    c.clip-last.ensures.same (omega (arith, c.if-fragments-size.true, length-bits c.args.source.now))

pub returns-then-fragments-size-clause-inside : goal.returns-then-fragments-size-clause-inside
returns-then-fragments-size-clause-inside c =
    let e = length-bits c.args.source.now in
    record {
      some = c.requires.some;
      few = c.requires.few;
      whole = omega arith;
      part = omega arith;
      middle = omega (arith, e, c.clip-middle.ensures.inside);
      last = omega (arith, e, c.clip-last.ensures.inside);
    }

pub returns-then-fragments-within-clause-same : goal.returns-then-fragments-within-clause-same
returns-then-fragments-within-clause-same c =
    same_whole c.args.unit (bits c.args.source.now) c.args.fragments c.clip-middle.result c.clip-last.result c.clip-middle.ensures.same
    c.clip-last.ensures.same

pub returns-then-fragments-within-clause-inside : goal.returns-then-fragments-within-clause-inside
returns-then-fragments-within-clause-inside c =
    let e = length-bits c.args.source.now in
    let size = c.args.unit * 65536 + 8 in
    let le = mul-div-le (8 * length c.args.source.now - c.args.fragments.at) size in
    let few = mul-le-mul_left size c.if-fragments-within.true in
    record {
      some = c.requires.some;
      few = c.requires.few;
      whole = omega (arith, e, c.if-fragments-size.false, le, few);
      part = omega arith;
      middle = omega (arith, e, c.clip-middle.ensures.inside);
      last = omega (arith, e, c.clip-last.ensures.inside);
    }

pub returns-clause-same : goal.returns-clause-same
returns-clause-same c =
    let e = length-bits c.args.source.now in
    let left = 8 * length c.args.source.now - c.args.fragments.at in
    let size = c.args.unit * 65536 + 8 in
    let past = lt-div-mul-add {a = left} {b = size} (omega arith) in
    same_part c.args.unit (bits c.args.source.now) c.args.fragments c.clip-middle.result c.clip-last.result c.clip-middle.ensures.same
    c.clip-last.ensures.same (left / size) c.clip-part.result (omega (arith, c.if-fragments-within.false))
    (omega (arith, e, c.if-fragments-size.false, past)) c.clip-part.ensures.same

pub returns-clause-inside : goal.returns-clause-inside
returns-clause-inside c =
    let e = length-bits c.args.source.now in
    let le = mul-div-le (8 * length c.args.source.now - c.args.fragments.at) (c.args.unit * 65536 + 8) in
    record {
      some = c.requires.some;
      few = c.requires.few;
      whole = omega (arith, e, c.if-fragments-size.false, le);
      part = omega (arith, e, c.clip-part.ensures.inside);
      middle = omega (arith, e, c.clip-middle.ensures.inside);
      last = omega (arith, e, c.clip-last.ensures.inside);
    }
