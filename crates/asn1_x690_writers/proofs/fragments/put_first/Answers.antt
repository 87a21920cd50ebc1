use Rattle.std.proofs.Common.{◌≡◌, ℕ, ◌+◌, ◌-◌, ◌∙◌, List, Bool, take, drop, sym, ap, subst, arith}
use Rattle.asn1_bits.specs.Bits.{bits}
use Rattle.asn1_bits.specs.Laws.DigitLaws.{length-bits}
use Rattle.asn1_schema.specs.PiecesOfParts.{bits_at}
use Rattle.asn1_x691_fields.specs.Steps.{front_length}
use Rattle.asn1_x691_writers.specs.GrownSteps.{grown_none, grown_both}
use Rattle.asn1_x691_writers.specs.Written.{IsGrown}
use Rattle.asn1_x690_writers.specs.Fragments.{bits_left}
use Rattle.asn1_x690_writers.specs.FragmentSteps.{some_of_head, taken, dropped, has_head}
use Rattle.asn1_x690_writers.proofs.fragments.put_first.Goals as goal

pub loop-left-init : goal.loop-left-init
loop-left-init c =
    let a = c.args in
    let all = bits_left a.unit (bits a.source.now) a.all in
    let e : a.count - a.count ≡ 0 = omega arith in
    record {
      few = omega arith;
      inside = c.requires.inside;
      same = sym (ap (λ (n : ℕ). drop n all) e);
      grown = subst (λ (n : ℕ). IsGrown a.octets.now a.at a.octets.now a.at (take n all)) (sym e) (grown_none a.octets.now a.at);
    }

pub loop-left-preserved : goal.loop-left-preserved
loop-left-preserved c =
    let a = c.args in
    let l = c.loop-left in
    let list = bits a.source.now in
    let all = bits_left a.unit list a.all in
    let next = c.with_head-next in
    let some = c.min-some.result in
    let rest = c.after_head-rest in
    let k = c.put_span-end in
    let r = next.result in
    let min = c.min-some.ensures in
    let e = next.ensures.same ∙ l.invariant.same in
    let first = some_of_head a.unit list r rest.result some (omega (arith, min)) rest.ensures.at rest.ensures.count rest.ensures.others in
    let run = bits_at list r.head.at some in
    let size = front_length list r.head.at some (omega (arith, min, next.ensures.inside, length-bits a.source.now)) in
    let before = a.count - l.left in
    let done : before + some ≡ a.count - (l.left - some) = omega (arith, l.invariant.few, min) in
    record {
      few = omega (arith, l.invariant.few);
      inside = omega (arith, next.ensures.inside, rest.ensures.at, rest.ensures.count, min);
      same = sym (ap (λ (n : ℕ). drop n all) (sym done) ∙ dropped all run (bits_left a.unit list rest.result) before some (sym e ∙ first) size);
      grown = subst (λ (x : List Bool). IsGrown a.octets.now a.at k.new.octets k.result x)
          (sym (taken all run (bits_left a.unit list rest.result) before some (sym e ∙ first) size) ∙ ap (λ (n : ℕ). take n all) done)
          (grown_both a.octets.now l.octets k.new.octets a.at l.end k.result (take before all) run l.invariant.grown k.ensures);
    }

pub loop-left-smaller : goal.loop-left-smaller
loop-left-smaller c =
    let a = c.args in
    let l = c.loop-left in
    let all = bits_left a.unit (bits a.source.now) a.all in
    let done = a.count - l.left in
    let n = c.with_head-next.result.head.count in
    let some = has_head all a.count done n (omega (arith, l.invariant.few, c.loop-left-test.true)) c.requires.within
    (λ z. sym l.invariant.same ∙ c.with_head-next.ensures.none z) in
    omega (arith, some, c.min-some.ensures, c.loop-left-test.true)

pub returns : goal.returns
returns c =
    let a = c.args in
    let l = c.loop-left in
    let e : a.count - l.left ≡ a.count = omega (arith, c.loop-left-test.false) in
    subst (λ (n : ℕ). IsGrown a.octets.now a.at l.octets l.end (take n (bits_left a.unit (bits a.source.now) a.all))) e l.invariant.grown
