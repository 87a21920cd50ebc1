use Rattle.std.proofs.Common.{◌≡◌, ℕ, ◌-◌, ◌^◌, ◌<◌, length, subst, arith}
use Rattle.asn1_bits.specs.Bits.{bits}
use Rattle.asn1_bits.specs.Laws.DigitLaws.{length-bits}
use Rattle.asn1_schema.specs.PiecesOfParts.{bits_at}
use Rattle.asn1_x691_writers.specs.Joined.{bits_in}
use Rattle.asn1_x691_writers.specs.JoinedSteps.{few_in}
use Rattle.asn1_x691_writers.specs.Written.{IsGrown}
use Rattle.asn1_x691_writers.proofs.JoinedLemmas.{run_grown}
use Rattle.asn1_x691_writers.proofs.joined.put_joined.Goals as goal

pub put_bits-next-requires-clause-within : goal.put_bits-next-requires-clause-within
put_bits-next-requires-clause-within c =
    omega (arith, length-bits c.args.source.now, c.run_at-run.ensures.inside, c.min-some.ensures)

pub overflow_add-first : goal.overflow_add-first
overflow_add-first c =
    let few : length (bits c.args.source.now) < 2 ^ 64 = omega (arith, length-bits c.args.source.now, c.requires.source) in
    let most = few_in (bits c.args.source.now) c.args.joined.now c.requires.inside few in
    let l = c.loop-left in
    omega (arith, most, c.requires.within, l.invariant.few, l.invariant.first, c.min-some.ensures)

pub loop-left-preserved : goal.loop-left-preserved
loop-left-preserved c =
    let l = c.loop-left in
    let some = c.min-some.result in
    record {
      few = omega (arith, l.invariant.few);
      first = omega (arith, l.invariant.few, l.invariant.first, c.min-some.ensures);
      grown = run_grown (bits c.args.source.now) (bits_in (bits c.args.source.now) c.args.joined.now) c.args.octets.now l.octets
          c.put_bits-next.new.octets c.args.at l.next c.put_bits-next.result c.args.from l.first (c.args.count - l.left) some
          (c.args.count - (l.left - some)) c.run_at-run.result l.invariant.grown l.invariant.first
          (omega (arith, c.min-some.ensures)) (omega (arith, l.invariant.few, c.min-some.ensures)) c.run_at-run.ensures.same
          c.put_bits-next.ensures;
    }

pub returns : goal.returns
returns c =
    let l = c.loop-left in
    let e : c.args.count - l.left ≡ c.args.count = omega (arith, c.loop-left-test.false) in
    subst
    (λ (k : ℕ). IsGrown c.args.octets.now c.args.at l.octets l.next (bits_at (bits_in (bits c.args.source.now) c.args.joined.now) c.args.from k))
    e l.invariant.grown
