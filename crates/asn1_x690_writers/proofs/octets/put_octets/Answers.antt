use Rattle.std.proofs.Common.{ℕ, ◌+◌, ◌*◌, ◌/◌, ◌<◌, length, sym, subst, arith}
use Rattle.asn1_bits.specs.Bits.{bits}
use Rattle.asn1_bits.specs.Laws.DigitLaws.{length-bits}
use Rattle.asn1_x691_writers.specs.Written.{IsIndex}
use Rattle.asn1_x691_writers.specs.GrownSteps.{grown_short}
use Rattle.asn1_x690_writers.specs.OctetSteps.{octets_grown}
use Rattle.asn1_x690_writers.proofs.octets.put_octets.Goals as goal
use Rattle.asn1_x690_writers.proofs.octets.put_octets.Goals.{else-first-octets-via-then-first-octets+else-own-octets, else-first-octets-via-else-first-octets}

pub returns-then-own-octets : goal.returns-then-own-octets
returns-then-own-octets c =
    let a = c.args in
    octets_grown a.octets.now c.store.new.octets a.own.now a.at (a.at / 8) c.requires.size (omega (arith, c.requires.whole))
    c.store.auto.octets c.store.ensures

pub returns : goal.returns
returns c =
    let a = c.args in
    let n = length-bits a.own.now in
    let short : 8 * length a.octets.now < a.at + length (bits a.own.now) = elim c.else-first-octets.branch [
      | else-first-octets-via-then-first-octets+else-own-octets w ↦ omega (arith, n, w.if-first-octets, w.if-own-octets, c.requires.whole)
      | else-first-octets-via-else-first-octets w ↦ omega (arith, n, w.if-first-octets, c.requires.whole)
    ] in
    grown_short a.octets.now a.at c.after.result (bits a.own.now) short
    (λ m h. subst (λ (k : ℕ). IsIndex c.after.result (m + k)) (sym n) (c.after.ensures m h))
