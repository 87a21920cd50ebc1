use Rattle.std.proofs.Common.{◌*◌, ℕ, refl, subst, set, arith}
use Rattle.asn1_x690_writers.specs.HeaderSteps.{length_written, length_short, short_length}
use Rattle.asn1_x690_writers.specs.OctetSteps.{first_octet}
use Rattle.asn1_x690_writers.specs.Written.{HaveBits}
use Rattle.asn1_x690_writers.proofs.lengths.put_length_before.Goals as goal

pub returns-then-count-octets-clause-before : goal.returns-then-count-octets-clause-before
returns-then-count-octets-clause-before c contents size have whole =
    let old = c.args.octets.now in
    let n = c.args.count in
    let one = c.if-reserved-ne1.false in
    length_written contents n n 8 1 old old (set old 0 n) (short_length n (omega (arith, c.if-count-ge128.false))) size refl
    (omega (arith, c.if-count-octets.true)) (subst (λ (k : ℕ). HaveBits old (8 * k) contents) one have) refl
    (first_octet old n (omega (arith, c.if-count-octets.true)))

pub returns-else-count-octets-clause-before : goal.returns-else-count-octets-clause-before
returns-else-count-octets-clause-before c contents size have whole =
    let n = c.args.count in
    length_short contents n n 8 c.args.octets.now (short_length n (omega (arith, c.if-count-ge128.false))) size
    (omega (arith, c.if-count-octets.false))
