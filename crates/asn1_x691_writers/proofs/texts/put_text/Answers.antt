use Rattle.std.proofs.Common.{Bool, true, false, sym, ap, subst}
use Rattle.asn1_schema.specs.Pieces.{Piece}
use Rattle.asn1_x691.specs.Fragments.{most_fragments}
use Rattle.asn1_x691.specs.Leaves.{text}
use Rattle.asn1_x691_fields.specs.Characters.{rows_of}
use Rattle.asn1_x691_writers.specs.Put.{IsPut, piece_in}
use Rattle.asn1_x691_writers.proofs.texts.put_text.Goals as goal

pub returns-then-not-is_extensible : goal.returns-then-not-is_extensible
returns-then-not-is_extensible c =
    let table = c.args.table.now in
    let T = λ (b : Bool).
    text most_fragments c.args.is_aligned c.args.node c.args.size b (rows_of table c.args.alphabet) (rows_of table c.args.whole) in
    let e = ap (piece_in table c.args.source.now) c.in-Text.is in
    subst
    (λ (b : Bool). IsPut c.args.is_aligned (T b) (piece_in table c.args.source.now c.args.part) c.args.octets.now c.args.state.now
    c.put_text_of_root.new.octets c.put_text_of_root.new.state c.put_text_of_root.result) (sym c.if-not-is_extensible.true)
    (subst
    (λ (p : Piece). IsPut c.args.is_aligned (T false) p c.args.octets.now c.args.state.now
    c.put_text_of_root.new.octets c.put_text_of_root.new.state c.put_text_of_root.result) (sym e) c.put_text_of_root.ensures)

pub returns-else-not-is_extensible : goal.returns-else-not-is_extensible
returns-else-not-is_extensible c =
    let table = c.args.table.now in
    let T = λ (b : Bool).
    text most_fragments c.args.is_aligned c.args.node c.args.size b (rows_of table c.args.alphabet) (rows_of table c.args.whole) in
    let e = ap (piece_in table c.args.source.now) c.in-Text.is in
    subst
    (λ (b : Bool). IsPut c.args.is_aligned (T b) (piece_in table c.args.source.now c.args.part) c.args.octets.now c.args.state.now
    c.put_text_by_bit.new.octets c.put_text_by_bit.new.state c.put_text_by_bit.result) (sym c.if-not-is_extensible.false)
    (subst
    (λ (p : Piece). IsPut c.args.is_aligned (T true) p c.args.octets.now c.args.state.now
    c.put_text_by_bit.new.octets c.put_text_by_bit.new.state c.put_text_by_bit.result) (sym e) c.put_text_by_bit.ensures)
