use Rattle.std.proofs.Common.{◌+◌, ◌≤◌, [], ◌∷◌, Bool, length, ap, ◌∙◌, arith}
use Rattle.asn1_bits.specs.Bits.{bits}
use Rattle.asn1_bits.specs.Laws.DigitLaws.{length-bits}
use Rattle.asn1_x691_writers.specs.DigitSteps.{zero_first, one_first}
use Rattle.asn1_x691_writers.proofs.held.strip_zeros.Goals as goal

pub returns-then-bit_at-clause-first : goal.returns-then-bit_at-clause-first
returns-then-bit_at-clause-first c some =
    let list = bits c.args.source.now in
    let inside : c.loop-count.at + c.loop-count.count ≤ length list =
    omega (arith, c.loop-count.invariant.end, c.requires.inside, length-bits c.args.source.now) in
    one_first list c.loop-count.at c.loop-count.count some inside
    (c.bit_at.ensures ∙ ap (λ (b : Bool). b ∷ []) c.if-bit_at.true)

pub loop-count-preserved : goal.loop-count-preserved
loop-count-preserved c =
    let list = bits c.args.source.now in
    record {
      end = omega (arith, c.loop-count.invariant.end, c.loop-count-test.true);
      same = zero_first list c.loop-count.at c.loop-count.count c.loop-count-test.true
          (c.bit_at.ensures ∙ ap (λ (b : Bool). b ∷ []) c.if-bit_at.false)
          ∙ c.loop-count.invariant.same;
    }
