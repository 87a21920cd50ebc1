use Rattle.std.proofs.Common.{◌≡◌, ℕ, ap, ◌∙◌, sym, Bool, arith}
use Rattle.asn1_bits.specs.Bits.{digits}
use Rattle.asn1_bits.specs.Laws.DigitLaws.{length-digits}
use Rattle.asn1_schema.specs.Pieces.{Truth}
use Rattle.asn1_x690.specs.Der.{always}
use Rattle.asn1_x690.specs.Leaves.{IsBoolean, truth_octet}
use Rattle.asn1_x691_writers.specs.Put.{piece_in}
use Rattle.asn1_x690_writers.specs.PutSteps.{leaf_put}
use Rattle.asn1_x690_writers.proofs.simple.put_boolean.Goals as goal
use Rattle.asn1_x690_writers.proofs.simple.put_boolean.Goals.{then-is_true, else-is_true}

pub returns-after-is_true : goal.returns-after-is_true
returns-after-is_true c ranges source =
    let a = c.args in
    let b = c.in-Truth.is_true in
    let octet = c.if-is_true.octet in
    let e : octet ≡ truth_octet b = elim c.if-is_true.branch [
      | then-is_true w ↦ w.octet-is ∙ ap truth_octet (sym w.if-is_true.true)
      | else-is_true w ↦ w.octet-is ∙ ap truth_octet (sym w.if-is_true.false)
    ] in
    leaf_put IsBoolean (always {X = Bool}) Truth a.node (piece_in ranges source a.part) b (digits octet 8) a.octets.now a.state.now
    c.put_number-state.new.octets c.put_number-state.result (ap (piece_in ranges source) c.in-Truth.is) (ap (λ (n : ℕ). digits n 8) e) tt
    (omega (arith, length-digits octet 8)) c.put_number-state.ensures
