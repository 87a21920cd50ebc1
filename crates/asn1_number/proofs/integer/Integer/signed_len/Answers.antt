use Rattle.std.proofs.Common.{◌≡◌, ◌-◌, ◌∙◌, sym, ap, subst, length, drop}
use Rattle.std.proofs.lemmas.List.{length-drop}
use Rattle.std.specs.List.{flat_map}
use Rattle.asn1_number.specs.Octets.{signed, IsShortest}
use Rattle.asn1_number.specs.Forms.{number_in, IsOneForm}
use Rattle.asn1_number.specs.Laws.OctetLaws.{shortest_once}
use Rattle.asn1_number.proofs.integer.Integer.signed_len.Goals as goal

pub returns-in-Inline : goal.returns-in-Inline
returns-in-Inline c = λ o s.
    let form = subst IsOneForm c.in-Inline.is c.self.invariant in
    let value : signed (flat_map (λ w. w) c.in-Inline.words) ≡ c.args.self.now = ap number_in (sym c.in-Inline.is)
    ∙ c.self.view_is in
    let t : IsShortest c.args.self.now (drop c.in-Inline.start (flat_map (λ w. w) c.in-Inline.words)) =
    subst (λ z. IsShortest z (drop c.in-Inline.start (flat_map (λ w. w) c.in-Inline.words))) value form.1 in
    sym (length-drop c.in-Inline.start (flat_map (λ w. w) c.in-Inline.words)
    ∙ ap (λ k. k - c.in-Inline.start) form.0)
    ∙ ap length (shortest_once c.args.self.now _ o t s)

pub returns-in-Shortest : goal.returns-in-Shortest
returns-in-Shortest c = λ o s.
    let form = subst IsOneForm c.in-Shortest.is c.self.invariant in
    let value : signed c.in-Shortest.octets.items ≡ c.args.self.now = ap number_in (sym c.in-Shortest.is)
    ∙ c.self.view_is in
    let t : IsShortest c.args.self.now c.in-Shortest.octets.items =
    subst (λ z. IsShortest z c.in-Shortest.octets.items) value form.0 in
    ap length (c.as_slice.ensures.value ∙ shortest_once c.args.self.now c.in-Shortest.octets.items o t s)
