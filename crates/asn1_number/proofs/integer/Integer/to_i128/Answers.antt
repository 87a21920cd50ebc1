use Rattle.std.proofs.Common.{◌≡◌, sym, ap, subst, ◌∙◌}
use Rattle.asn1_number.specs.Octets.{signed}
use Rattle.asn1_number.specs.Forms.{number_in, IsOneForm}
use Rattle.asn1_number.specs.Readings.{IsInRange, SignedOf}
use Rattle.asn1_number.specs.Laws.OctetLaws.{nine_bits_from_shortest}
use Rattle.asn1_number.specs.Laws.ReadingLaws.{past_sixteen}
use Rattle.asn1_number.proofs.integer.Integer.to_i128.Goals as goal

pub returns-in-Shortest : goal.returns-in-Shortest
returns-in-Shortest c = λ r.
    let form = subst IsOneForm c.in-Shortest.is c.self.invariant in
    let value : signed c.in-Shortest.field-0.items ≡ c.args.self.now = ap number_in (sym c.in-Shortest.is)
    ∙ c.self.view_is in
    past_sixteen c.in-Shortest.field-0.items form.0.octets (nine_bits_from_shortest _ _ form.0) form.1
    (subst (IsInRange (SignedOf 16)) (sym value) r)
