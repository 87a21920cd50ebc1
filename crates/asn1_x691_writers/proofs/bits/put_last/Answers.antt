use Rattle.std.proofs.Common.{◌≡◌, ℕ, ◌+◌, ◌*◌, ◌<◌, length, subst, arith}
use Rattle.asn1_bits.specs.Bits.{bits, digits}
use Rattle.asn1_bits.specs.Laws.DigitLaws.{length-bits, length-digits}
use Rattle.asn1_x691_writers.specs.Written.{IsIndex, IsGrown}
use Rattle.asn1_x691_writers.specs.GrownSteps.{grown_short, grown_stored}
use Rattle.asn1_x691_writers.proofs.WordLemmas.{over_stored}
use Rattle.asn1_x691_writers.proofs.bits.put_last.Goals as goal
use Rattle.asn1_x691_writers.proofs.bits.put_last.Goals.{then-at-size-via-then-at-size, then-at-size-via-else-at-size+then-width-size}

pub returns-then-at-size : goal.returns-then-at-size
returns-then-at-size c =
    let list = digits c.args.value c.args.width in
    let n = length-digits c.args.value c.args.width in
    let short : 8 * length c.args.octets.now < c.args.at + length list = elim c.then-at-size.branch [
      | then-at-size-via-then-at-size w ↦ omega (arith, n, w.if-at-size)
      | then-at-size-via-else-at-size+then-width-size w ↦ omega (arith, n, w.if-at-size, w.if-width-size)
    ] in
    grown_short c.args.octets.now c.args.at c.after.result list short
    (λ m h. subst (λ (k : ℕ). IsIndex c.after.result k) (omega (arith, n)) (c.after.ensures m h))

pub returns : goal.returns
returns c =
    let was = c.args.octets.now in
    let now = c.overwrite_number.new.dst in
    let at = c.args.at in
    let list = digits c.args.value c.args.width in
    let n = length-digits c.args.value c.args.width in
    let e : at + length list ≡ at + c.args.width = omega (arith, n) in
    let same : length now ≡ length was = c.overwrite_number.auto.dst in
    subst (λ (k : ℕ). IsGrown was at now k list) e
    (grown_stored was now at list c.requires.size same
    (over_stored (bits was) (bits now) at (at + length list) list (omega (arith, length-bits was, c.if-at-size.false)) (omega arith)
    c.overwrite_number.ensures.bits))
