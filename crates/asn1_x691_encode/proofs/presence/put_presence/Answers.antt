use Rattle.std.proofs.Common.{◌≡◌, ℕ, List, Bool, sym, subst}
use Rattle.asn1_bits.specs.Bits.{digits}
use Rattle.asn1_x691_writers.specs.GrownSteps.{grown_none}
use Rattle.asn1_x691_writers.specs.Written.{IsGrown}
use Rattle.asn1_x691_encode.proofs.presence.put_presence.Goals as goal

pub returns-then-count-eq0 : goal.returns-then-count-eq0
unfolding digits
returns-then-count-eq0 c =
    let a = c.args in
    subst (λ (n : ℕ). IsGrown a.octets.now a.at a.octets.now a.at (digits 0 n)) (sym c.if-count-eq0.true)
    (grown_none a.octets.now a.at)
