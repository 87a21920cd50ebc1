use Rattle.std.proofs.Common.{◌≡◌, ◌+◌, [], ◌∷◌, sym, ◌∙◌, ap}
use Rattle.asn1_schema.specs.Pieces.{Piece, Absent}
use Rattle.asn1_x691_writers.specs.Put.{piece_in}
use Rattle.asn1_x690_encode.specs.Encoding.{tape}
use Rattle.asn1_x690_encode.specs.Steps.{part_next, part_none}
use Rattle.asn1_x690_encode.proofs.sequence.is_absent.Goals as goal

pub returns-in-Some-clause-absent : goal.returns-in-Some-clause-absent
returns-in-Some-clause-absent c e =
    let cx = c.args.context.now in
    let next = c.args.next in
    part_next cx next c.in-Some.part.now (sym c.in-Some.ensures)
    ∙ ap (λ (p : Piece). p ∷ tape cx (next + 1)) (c.is_absent_part.ensures.absent cx.tables.ranges.now cx.source.now e)

pub returns-in-Some-clause-present : goal.returns-in-Some-clause-present
returns-in-Some-clause-present c e p =
    let cx = c.args.context.now in
    let next = c.args.next in
    let is = part_next cx next c.in-Some.part.now (sym c.in-Some.ensures) in
    let same : piece_in cx.tables.ranges.now cx.source.now c.in-Some.part.now ∷ tape cx (next + 1) ≡ Absent ∷ p.0 = sym is ∙ p.1 in
    let first : piece_in cx.tables.ranges.now cx.source.now c.in-Some.part.now ≡ Absent = cc in
    c.is_absent_part.ensures.present cx.tables.ranges.now cx.source.now e first

pub returns-in-None-clause-present : goal.returns-in-None-clause-present
returns-in-None-clause-present c e p =
    let cx = c.args.context.now in
    let none = part_none cx c.args.next (sym c.in-None.ensures) in
    let same : [] ≡ Absent ∷ p.0 = sym none ∙ p.1 in
    absurd (cc)
