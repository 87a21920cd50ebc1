use Rattle.std.proofs.Common.{Bool, true, sym, ap, ◌∙◌, subst}
use Rattle.asn1_schema.specs.Pieces.{Piece, UnknownEnumerated}
use Rattle.asn1_x691.specs.Leaves.{enumerated_by}
use Rattle.asn1_x691_writers.specs.Put.{IsPut, piece_in}
use Rattle.asn1_x691_writers.proofs.enumerations.put_enumerated.Goals as goal

pub returns-then-is_extensible : goal.returns-then-is_extensible
returns-then-is_extensible c ranges =
    let T = λ (b : Bool). enumerated_by c.args.is_aligned c.args.node b c.args.last c.args.additions in
    subst
    (λ (b : Bool). IsPut c.args.is_aligned (T b) (piece_in ranges c.args.source.now c.args.part) c.args.octets.now c.args.state.now
    c.put_value_by_bit.new.octets c.put_value_by_bit.new.state c.put_value_by_bit.result) (sym c.if-is_extensible.true)
    (subst
    (λ (p : Piece). IsPut c.args.is_aligned (T true) p c.args.octets.now c.args.state.now c.put_value_by_bit.new.octets
    c.put_value_by_bit.new.state c.put_value_by_bit.result) (sym (ap (piece_in ranges c.args.source.now) c.in-Enumerated.is))
    c.put_value_by_bit.ensures)

pub returns-in-Some : goal.returns-in-Some
returns-in-Some c ranges =
    let T = λ (b : Bool). enumerated_by c.args.is_aligned c.args.node b c.args.last c.args.additions in
    let e = ap UnknownEnumerated c.in-Some.ensures ∙ sym (ap (piece_in ranges c.args.source.now) c.in-UnknownEnumerated.is) in
    subst
    (λ (b : Bool). IsPut c.args.is_aligned (T b) (piece_in ranges c.args.source.now c.args.part) c.args.octets.now c.args.state.now
    c.put_unknown_value.new.octets c.put_unknown_value.new.state c.put_unknown_value.result) (sym c.if-not-is_extensible.false)
    (subst
    (λ (p : Piece). IsPut c.args.is_aligned (T true) p c.args.octets.now c.args.state.now c.put_unknown_value.new.octets
    c.put_unknown_value.new.state c.put_unknown_value.result) e
    c.put_unknown_value.ensures)
