use Rattle.std.proofs.Common.{rules, arith, ◌≡◌, ◌-◌, length, drop, take, get_or, sym, ap, subst, ◌∙◌}
use Rattle.std.proofs.lemmas.Grind.{common_steps}
use Rattle.asn1_number.specs.Octets.{signed}
use Rattle.asn1_number.specs.Forms.{number_in, IsOneForm}
use Rattle.asn1_number.specs.Laws.ReadingLaws.{spells_no_u128, spells_u128}
use Rattle.asn1_number.proofs.integer.Integer.to_u128.Goals as goal

pub returns-in-0 : goal.returns-in-0
returns-in-0 c =
    let value : signed c.in-Shortest.octets.items ≡ c.args.self.now = ap number_in (sym c.in-Shortest.is)
    ∙ c.self.view_is in
    let zero : get_or c.as_slice.result.now 0 0 ≡ 0 = omega arith in
    let rest : take (length c.as_slice.result.now - 1) (drop 1 c.as_slice.result.now) ≡ drop 1 c.as_slice.result.now =
    grind (arith, common_steps) in
    spells_u128 c.args.self.now c.in-Shortest.octets.items c.as_slice.result.now _ c.unsigned_value.result
    c.as_slice.ensures.value value (omega arith) zero rest c.unsigned_value.ensures c.unsigned_value.type_inv

pub returns-in_default-2 : goal.returns-in_default-2
returns-in_default-2 c = λ r.
    let form = subst IsOneForm c.in-Shortest.is c.self.invariant in
    let value : signed c.in-Shortest.octets.items ≡ c.args.self.now = ap number_in (sym c.in-Shortest.is)
    ∙ c.self.view_is in
    let rest : length (take (length c.as_slice.result.now - 1) (drop 1 c.as_slice.result.now)) ≡ length
    c.as_slice.result.now - 1 = grind (arith, common_steps) in
    spells_no_u128 c.args.self.now c.in-Shortest.octets.items c.as_slice.result.now c.as_slice.ensures.value value
    form.0 form.1
    (λ seventeen _. omega (arith, rest)) r

pub returns-in_default-3 : goal.returns-in_default-3
returns-in_default-3 c = λ r.
    let form = subst IsOneForm c.in-Shortest.is c.self.invariant in
    let value : signed c.in-Shortest.octets.items ≡ c.args.self.now = ap number_in (sym c.in-Shortest.is)
    ∙ c.self.view_is in
    spells_no_u128 c.args.self.now c.in-Shortest.octets.items c.as_slice.result.now c.as_slice.ensures.value value
    form.0 form.1
    (λ _ zero. search rules) r
