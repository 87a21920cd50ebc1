use Rattle.std.proofs.Common.{◌≡◌, ℕ, ◌+◌, ◌-◌, ◌++◌, List, Bool, sym, ap, ◌∙◌, subst, arith}
use Rattle.asn1_bits.specs.Bits.{bits, digits}
use Rattle.asn1_oid.specs.Writing.{last_octets}
use Rattle.asn1_x691_writers.specs.GrownSteps.{grown_none, grown_both}
use Rattle.asn1_x691_writers.specs.Written.{IsGrown}
use Rattle.asn1_x690_writers.proofs.identifiers.+put_digits.Goals as goal

pub returns-then-count-eq0 : goal.returns-then-count-eq0
unfolding bits last_octets
returns-then-count-eq0 t c =
    subst (λ (k : ℕ). IsGrown c.args.octets.now c.args.at c.args.octets.now c.args.at (bits (last_octets c.args.number k)))
    (sym c.if-count-eq0.true) (grown_none c.args.octets.now c.args.at)

pub returns : goal.returns
unfolding bits
returns t c =
    let k = c.args.count - 1 in
    let n = c.args.number in
    let e : k + 1 ≡ c.args.count = omega (arith, c.if-count-eq0.false) in
    let is : bits (last_octets n c.args.count) ≡ digits c.digit_at.result 8 ++ bits (last_octets n k) =
    ap (λ (j : ℕ). bits (last_octets n j)) (sym e) ∙ ap bits c.digit_at.ensures.first in
    subst (λ (l : List Bool). IsGrown c.args.octets.now c.args.at c.put_digits.new.octets c.put_digits.result l) (sym is)
    (grown_both c.args.octets.now c.put_number-next.new.octets c.put_digits.new.octets c.args.at c.put_number-next.result
    c.put_digits.result (digits c.digit_at.result 8) (bits (last_octets n k)) c.put_number-next.ensures c.put_digits.ensures)
