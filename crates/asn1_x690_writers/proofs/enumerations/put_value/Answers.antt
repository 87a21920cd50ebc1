use Rattle.std.proofs.Common.{◌≡◌, refl, ap, ◌∙◌, sym, subst, arith}
use Rattle.asn1_bits.specs.Bits.{bits}
use Rattle.asn1_bits.specs.Laws.DigitLaws.{length-bits}
use Rattle.asn1_schema.specs.declared.misfit.MisfitKind.TheVariants.{NoEncoding}
use Rattle.asn1_schema.specs.Pieces.{Piece, Enumerated, Unknown}
use Rattle.asn1_schema.specs.PiecesOfParts.{bits_of}
use Rattle.asn1_x690.specs.Leaves.{IsEnumerated, IsPermittedValue, leaf_of}
use Rattle.asn1_x691_writers.specs.Put.{piece_in}
use Rattle.asn1_x690_writers.specs.EnumeratedSteps.{any_permitted, value_whole, unknown_only, known_only}
use Rattle.asn1_x690_writers.specs.PutSteps.{leaf_put, leaf_none, rejected, span_length}
use Rattle.asn1_x690_writers.proofs.enumerations.put_value.Goals as goal

pub returns-then-inside-gt0 : goal.returns-then-inside-gt0
returns-then-inside-gt0 c ranges =
    let a = c.args in
    let s = c.clip-inside.result in
    let list = bits_of (bits a.source.now) s in
    let p = piece_in ranges a.source.now a.part in
    let e : p ≡ Unknown list = ap (piece_in ranges a.source.now) c.in-Unknown.is ∙ ap Unknown (sym c.clip-inside.ensures.same) in
    let h = span_length a.source.now s c.clip-inside.ensures.inside in
    let k = c.reject-then-inside-gt0 in
    rejected (⊥) (leaf_of (IsEnumerated a.numbers.now) (IsPermittedValue a.is_extensible) (λ (q : Piece). q) a.node) p a.octets.now
    a.state.now k.new.state k.result a.node NoEncoding k.ensures.result k.ensures.at k.ensures.next k.ensures.node k.ensures.reason
    (leaf_none (IsEnumerated a.numbers.now) (IsPermittedValue a.is_extensible) (λ (q : Piece). q) a.node p p refl
    (λ l are permitted. unknown_only a.numbers.now list p l e
    (λ q. omega (arith, h, value_whole a.numbers.now (Unknown list) list q, c.if-inside-gt0.true)) are))

pub is_unknown-requires-clause-contents : goal.is_unknown-requires-clause-contents
is_unknown-requires-clause-contents c = record {
  inside = omega (arith, c.clip-inside.ensures.inside, length-bits c.args.source.now);
  whole = omega (arith, c.if-inside-gt0.false);
}

pub returns-then-not-is_unknown : goal.returns-then-not-is_unknown
returns-then-not-is_unknown c ranges =
    let a = c.args in
    let s = c.clip-inside.result in
    let list = bits_of (bits a.source.now) s in
    let p = piece_in ranges a.source.now a.part in
    let e : p ≡ Unknown list = ap (piece_in ranges a.source.now) c.in-Unknown.is ∙ ap Unknown (sym c.clip-inside.ensures.same) in
    let k = c.reject-then-not-is_unknown in
    rejected (⊥) (leaf_of (IsEnumerated a.numbers.now) (IsPermittedValue a.is_extensible) (λ (q : Piece). q) a.node) p a.octets.now
    a.state.now k.new.state k.result a.node NoEncoding k.ensures.result k.ensures.at k.ensures.next k.ensures.node k.ensures.reason
    (leaf_none (IsEnumerated a.numbers.now) (IsPermittedValue a.is_extensible) (λ (q : Piece). q) a.node p p refl
    (λ l are permitted. unknown_only a.numbers.now list p l e (c.is_unknown.ensures.no c.if-not-is_unknown.true) are))

pub returns-in-None : goal.returns-in-None
returns-in-None c ranges =
    let a = c.args in
    let i = c.in-Enumerated.index in
    let p = piece_in ranges a.source.now a.part in
    let e : p ≡ Enumerated i = ap (piece_in ranges a.source.now) c.in-Enumerated.is in
    let k = c.reject in
    rejected (⊥) (leaf_of (IsEnumerated a.numbers.now) (IsPermittedValue a.is_extensible) (λ (q : Piece). q) a.node) p a.octets.now
    a.state.now k.new.state k.result a.node NoEncoding k.ensures.result k.ensures.at k.ensures.next k.ensures.node k.ensures.reason
    (leaf_none (IsEnumerated a.numbers.now) (IsPermittedValue a.is_extensible) (λ (q : Piece). q) a.node p p refl
    (λ l are permitted. known_only a.numbers.now i p l e (c.in-None.ensures.none refl) are))

pub returns-else-not-is_unknown : goal.returns-else-not-is_unknown
returns-else-not-is_unknown c ranges =
    let a = c.args in
    let list = bits_of (bits a.source.now) c.clip-inside.result in
    let p = piece_in ranges a.source.now a.part in
    let e : p ≡ Unknown list = ap (piece_in ranges a.source.now) c.in-Unknown.is ∙ ap Unknown (sym c.clip-inside.ensures.same) in
    let is = c.is_unknown.ensures.yes c.if-not-is_unknown.false in
    leaf_put (IsEnumerated a.numbers.now) (IsPermittedValue a.is_extensible) (λ (q : Piece). q) a.node p p list a.octets.now a.state.now
    c.put_span-state.new.octets c.put_span-state.result refl (subst (λ (q : Piece). IsEnumerated a.numbers.now q list) (sym e) is)
    (any_permitted a.is_extensible p c.if-not-is_extensible.false) (value_whole a.numbers.now (Unknown list) list is) c.put_span-state.ensures
