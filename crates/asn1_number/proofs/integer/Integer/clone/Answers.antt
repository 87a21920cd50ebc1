use Rattle.std.proofs.Common.{◌≡◌, sym, ap, subst, ◌∙◌}
use Rattle.asn1_number.specs.Octets.{signed}
use Rattle.asn1_number.specs.Forms.{number_in, IsOneForm}
use Rattle.asn1_number.specs.Readings.{FitsI128}
use Rattle.asn1_number.specs.Laws.OctetLaws.{nine_bits_from_shortest}
use Rattle.asn1_number.specs.Laws.ReadingLaws.{past_sixteen}
use Rattle.asn1_number.proofs.integer.Integer.clone.Goals as goal

pub returns-in_default-clause-memory : goal.returns-in_default-clause-memory
returns-in_default-clause-memory c = λ r.
    let form = subst IsOneForm c.in-Shortest.is c.self.invariant in
    let value : signed c.in-Shortest.octets.items ≡ c.args.self.now = ap number_in (sym c.in-Shortest.is)
    ∙ c.self.view_is in
    past_sixteen c.in-Shortest.octets.items form.0.octets (nine_bits_from_shortest _ _ form.0) form.1
    (subst FitsI128 (sym value) r)
