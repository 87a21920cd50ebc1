use Rattle.std.proofs.Common.{◌≡◌, ℕ, ◌+◌, ◌-◌, ◌∙◌, drop, sym, ap, arith}
use Rattle.asn1_bits.specs.Bits.{bits}
use Rattle.asn1_bits.specs.Laws.DigitLaws.{length-bits}
use Rattle.asn1_schema.specs.PiecesOfParts.{bits_at}
use Rattle.asn1_x691_fields.specs.Steps.{front_length}
use Rattle.asn1_x690_writers.specs.Fragments.{bits_left}
use Rattle.asn1_x690_writers.specs.FragmentSteps.{some_of_head, dropped, has_head}
use Rattle.asn1_x690_writers.proofs.fragments.skip.Goals as goal

pub loop-left-init : goal.loop-left-init
loop-left-init c =
    let a = c.args in
    let all = bits_left a.unit (bits a.source.now) a.all in
    let e : a.count - a.count ≡ 0 = omega arith in
    record { few = omega arith; inside = c.requires.inside; same = sym (ap (λ (n : ℕ). drop n all) e) }

pub loop-left-preserved : goal.loop-left-preserved
loop-left-preserved c =
    let a = c.args in
    let l = c.loop-left in
    let list = bits a.source.now in
    let all = bits_left a.unit list a.all in
    let next = c.with_head-next in
    let some = c.min-some.result in
    let rest = c.after_head-rest in
    let r = next.result in
    let min = c.min-some.ensures in
    let e = next.ensures.same ∙ l.invariant.same in
    let first = some_of_head a.unit list r rest.result some (omega (arith, min)) rest.ensures.at rest.ensures.count rest.ensures.others in
    let size = front_length list r.head.at some (omega (arith, min, next.ensures.inside, length-bits a.source.now)) in
    let done : a.count - l.left + some ≡ a.count - (l.left - some) = omega (arith, l.invariant.few, min) in
    record {
      few = omega (arith, l.invariant.few);
      inside = omega (arith, next.ensures.inside, rest.ensures.at, rest.ensures.count, min);
      same = sym (ap (λ (n : ℕ). drop n all) (sym done)
          ∙ dropped all (bits_at list r.head.at some) (bits_left a.unit list rest.result) (a.count - l.left) some (sym e ∙ first) size);
    }

pub loop-left-smaller : goal.loop-left-smaller
loop-left-smaller c =
    let a = c.args in
    let l = c.loop-left in
    let all = bits_left a.unit (bits a.source.now) a.all in
    let done = a.count - l.left in
    let n = c.with_head-next.result.head.count in
    let some = has_head all a.count done n (omega (arith, l.invariant.few, c.loop-left-test.true)) c.requires.within
    (λ z. sym l.invariant.same ∙ c.with_head-next.ensures.none z) in
    omega (arith, some, c.min-some.ensures, c.loop-left-test.true)
