use Rattle.std.proofs.Common.{List, Bool, refl, ap, ◌∙◌, sym, arith}
use Rattle.asn1_bits.specs.Bits.{bits}
use Rattle.asn1_schema.specs.Pieces.{Octets}
use Rattle.asn1_schema.specs.PiecesOfParts.{bits_of}
use Rattle.asn1_x690.specs.Der.{always}
use Rattle.asn1_x690.specs.Leaves.{IsKept}
use Rattle.asn1_x691_writers.specs.Put.{piece_in}
use Rattle.asn1_x691_writers.specs.Validity.{IsValid}
use Rattle.asn1_x690_writers.specs.PutSteps.{leaf_put, span_length}
use Rattle.asn1_x690_writers.proofs.octet_strings.put_kept.Goals as goal

pub returns-else-not-is_of_kind : goal.returns-else-not-is_of_kind
returns-else-not-is_of_kind c ranges =
    let a = c.args in
    let s = c.clip-inside.result in
    let list = bits_of (bits a.source.now) s in
    leaf_put (IsKept (IsValid a.kind)) (always {X = List Bool}) Octets a.node (piece_in ranges a.source.now a.part) list list a.octets.now
    a.state.now c.put_span-state.new.octets c.put_span-state.result
    (ap (piece_in ranges a.source.now) c.in-Octets.is ∙ ap Octets (sym c.clip-inside.ensures.same))
    (refl, c.is_of_kind.ensures.yes c.if-not-is_of_kind.false) tt
    (let h = span_length a.source.now s c.clip-inside.ensures.inside in omega (arith, h, c.is_of_kind.ensures.whole c.if-not-is_of_kind.false))
    c.put_span-state.ensures
