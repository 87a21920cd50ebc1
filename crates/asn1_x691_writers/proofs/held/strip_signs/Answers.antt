use Rattle.std.proofs.Common.{◌+◌, ◌≤◌, [], ◌∷◌, Bool, length, ap, ◌∙◌, arith}
use Rattle.asn1_bits.specs.Bits.{bits}
use Rattle.asn1_bits.specs.Laws.DigitLaws.{length-bits}
use Rattle.asn1_x691_writers.specs.DigitSteps.{repeated_sign, signs_differ}
use Rattle.asn1_x691_writers.proofs.HeldLemmas.{differ, agree}
use Rattle.asn1_x691_writers.proofs.held.strip_signs.Goals as goal

pub returns-then-bit_at-clause-first : goal.returns-then-bit_at-clause-first
returns-then-bit_at-clause-first c more =
    let list = bits c.args.source.now in
    let inside : c.loop-count.at + c.loop-count.count ≤ length list =
    omega (arith, c.loop-count.invariant.end, c.requires.inside, length-bits c.args.source.now) in
    signs_differ list c.loop-count.at c.loop-count.count c.bit_at.result c.bit_at-in-loop-count.result more inside c.bit_at.ensures
    c.bit_at-in-loop-count.ensures (differ c.bit_at.result c.bit_at-in-loop-count.result c.if-bit_at.true)

pub loop-count-preserved : goal.loop-count-preserved
loop-count-preserved c =
    let list = bits c.args.source.now in
    let e = agree c.bit_at.result c.bit_at-in-loop-count.result c.if-bit_at.false in
    record {
      end = omega (arith, c.loop-count.invariant.end, c.loop-count-test.true);
      same = repeated_sign list c.loop-count.at c.loop-count.count c.bit_at.result c.loop-count-test.true c.bit_at.ensures
          (c.bit_at-in-loop-count.ensures ∙ ap (λ (b : Bool). b ∷ []) e)
          ∙ c.loop-count.invariant.same;
    }
