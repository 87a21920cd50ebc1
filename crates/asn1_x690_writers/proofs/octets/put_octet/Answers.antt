use Rattle.std.proofs.Common.{ℕ, ◌+◌, ◌/◌, sym, subst, arith}
use Rattle.asn1_bits.specs.Bits.{digits}
use Rattle.asn1_bits.specs.Laws.DigitLaws.{length-digits}
use Rattle.asn1_x691_writers.specs.Written.{IsIndex}
use Rattle.asn1_x691_writers.specs.GrownSteps.{grown_short}
use Rattle.asn1_x690_writers.specs.OctetSteps.{octet_grown}
use Rattle.asn1_x690_writers.proofs.octets.put_octet.Goals as goal

pub returns-then-at-octets : goal.returns-then-at-octets
returns-then-at-octets c =
    octet_grown c.args.octets.now c.args.at (c.args.at / 8) c.args.octet c.requires (omega (arith, c.if-at-gt0.false)) c.if-at-octets.true

pub returns : goal.returns
returns c =
    let a = c.args in
    let n = length-digits a.octet 8 in
    grown_short a.octets.now a.at c.after.result (digits a.octet 8) (omega (arith, n, c.if-at-octets.false, c.if-at-gt0.false))
    (λ m h. subst (λ (k : ℕ). IsIndex c.after.result (m + k)) (sym n) (c.after.ensures m h))
