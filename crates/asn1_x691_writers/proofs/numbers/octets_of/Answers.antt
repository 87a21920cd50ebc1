use Rattle.std.proofs.Common.{◌≡◌, ◌+◌, ◌/◌, arith}
use Rattle.asn1_x691.specs.Fields.{width_to, octets_needed}
use Rattle.asn1_x691_writers.proofs.WidthLemmas.{octets_minimal, octets_mono}
use Rattle.asn1_x691_writers.proofs.numbers.octets_of.Goals as goal

pub returns-clause-minimal : goal.returns-clause-minimal
returns-clause-minimal c =
    let e : c.saturating_sub.result / 8 + 1 ≡ octets_needed (width_to c.args.n) =
    omega (arith, c.saturating_sub.ensures, c.width_to.ensures.value) in
    octets_minimal c.args.n (c.saturating_sub.result / 8 + 1) e

pub returns-clause-fewest : goal.returns-clause-fewest
returns-clause-fewest c range h =
    let m = octets_mono c.args.n range h in
    omega (arith, m, c.saturating_sub.ensures, c.width_to.ensures.value)
