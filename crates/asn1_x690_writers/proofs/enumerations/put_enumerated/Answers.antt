use Rattle.std.proofs.Common.{◌≡◌, ℕ, ℤ, ◌+◌, Bool, List, sym, ◌∙◌, ap, subst}
use Rattle.std.specs.Prelude.{slice_range}
use Rattle.asn1_schema.specs.Pieces.{Piece}
use Rattle.asn1_x690.specs.Leaves.{IsEnumerated, IsPermittedValue, leaf_of}
use Rattle.asn1_x691_writers.specs.Put.{piece_in}
use Rattle.asn1_x690_writers.specs.EnumeratedSteps.{known_by, by_numbers}
use Rattle.asn1_x690_writers.specs.Put.{IsPut}
use Rattle.asn1_x690_writers.proofs.enumerations.put_enumerated.Goals as goal
use Rattle.asn1_x690_writers.proofs.enumerations.put_enumerated.Goals.{then-is_extensible, else-is_extensible}

pub returns : goal.returns
returns c ranges =
    let a = c.args in
    let k = a.additions in
    let b = a.is_extensible in
    let p = piece_in ranges a.source.now a.part in
    let known : c.if-is_extensible.additions ≡ known_by b k = elim c.if-is_extensible.branch [
      | then-is_extensible w ↦ w.additions-is ∙ ap (λ (d : Bool). known_by d k) (sym w.if-is_extensible.true)
      | else-is_extensible w ↦ w.additions-is ∙ ap (λ (d : Bool). known_by d k) (sym w.if-is_extensible.false)
    ] in
    let t = a.tags in
    let r = c.put_value in
    by_numbers ranges a.numbers.now a.node t a.last b k p a.octets.now a.state.now r.new.octets r.new.state r.result
    (subst (λ (n : ℕ). IsPut (⊥) (leaf_of (IsEnumerated (slice_range a.numbers.now t.numbers (t.numbers + (a.last + 1 + n)))) (IsPermittedValue b)
    (λ (q : Piece). q) a.node) p a.octets.now a.state.now r.new.octets r.new.state r.result) known
    (subst (λ (ns : List ℤ). IsPut (⊥) (leaf_of (IsEnumerated ns) (IsPermittedValue b) (λ (q : Piece). q) a.node) p a.octets.now a.state.now
    r.new.octets r.new.state r.result) c.numbers_in-values.ensures (r.ensures ranges)))
