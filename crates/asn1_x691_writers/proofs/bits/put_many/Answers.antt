use Rattle.std.proofs.Common.{◌≡◌, ℕ, ◌+◌, ◌*◌, ◌<◌, length, take, drop, subst, ap, ◌∙◌, arith}
use Rattle.asn1_bits.specs.Bits.{bits, overwritten}
use Rattle.asn1_bits.specs.View.{list_of}
use Rattle.asn1_bits.specs.Laws.DigitLaws.{length-bits}
use Rattle.asn1_x691_fields.specs.Steps.{front_length}
use Rattle.asn1_x691_writers.specs.Written.{IsIndex, IsGrown}
use Rattle.asn1_x691_writers.specs.GrownSteps.{grown_short, grown_stored}
use Rattle.asn1_x691_writers.proofs.WordLemmas.{over_stored}
use Rattle.asn1_x691_writers.proofs.bits.put_many.Goals as goal
use Rattle.asn1_x691_writers.proofs.bits.put_many.Goals.{then-at-size-via-then-at-size, then-at-size-via-else-at-size+then-count-size}

pub returns-then-at-size : goal.returns-then-at-size
returns-then-at-size c =
    let list = take c.args.count (drop c.args.from (bits c.args.source.now)) in
    let n = front_length (bits c.args.source.now) c.args.from c.args.count (omega (arith, length-bits c.args.source.now, c.requires.within)) in
    let short : 8 * length c.args.octets.now < c.args.at + length list = elim c.then-at-size.branch [
      | then-at-size-via-then-at-size w ↦ omega (arith, n, w.if-at-size)
      | then-at-size-via-else-at-size+then-count-size w ↦ omega (arith, n, w.if-at-size, w.if-count-size)
    ] in
    grown_short c.args.octets.now c.args.at c.after.result list short
    (λ m h. subst (λ (k : ℕ). IsIndex c.after.result k) (omega (arith, n)) (c.after.ensures m h))

pub returns-in-Some : goal.returns-in-Some
unfolding list_of
returns-in-Some c =
    let was = c.args.octets.now in
    let now = c.overwrite_bitslice.new.dst in
    let at = c.args.at in
    let list = take c.args.count (drop c.args.from (bits c.args.source.now)) in
    let n = front_length (bits c.args.source.now) c.args.from c.args.count (omega (arith, length-bits c.args.source.now, c.requires.within)) in
    let e : at + length list ≡ at + c.args.count = omega (arith, n) in
    subst (λ (k : ℕ). IsGrown was at now k list) e
    (grown_stored was now at list c.requires.size c.overwrite_bitslice.auto.dst
    (over_stored (bits was) (bits now) at (at + length list) list (omega (arith, length-bits was, c.if-at-size.false)) (omega arith)
    (c.overwrite_bitslice.ensures.bits ∙ ap (overwritten (bits was) at) (ap list_of c.in-Some.ensures.some))))
