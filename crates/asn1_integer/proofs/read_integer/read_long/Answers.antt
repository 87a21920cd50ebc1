use Rattle.std.proofs.Common.{sym, ap, ◌∙◌}
use Rattle.asn1_bits.specs.Octets.{octets_in}
use Rattle.asn1_number.specs.Octets.{signed}
use Rattle.asn1_bits.specs.Laws.NumberLaws.{same_octets}
use Rattle.asn1_integer.proofs.read_integer.read_long.Goals as goal

pub returns : goal.returns
returns c = λ octets is are.
    let read = octets_in c.in_ok-octets.octets in
    c.in-Ok.ensures.value ∙ ap signed
    (c.as_ref.ensures.list ∙ same_octets read octets c.in_ok-octets.ensures.octets are
    (c.in_ok-octets.ensures.bits ∙ sym is))
