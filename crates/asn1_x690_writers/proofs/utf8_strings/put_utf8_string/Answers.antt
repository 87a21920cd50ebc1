use Rattle.std.proofs.Common.{◌≡◌, List, Bool, refl, ap, ◌∙◌, sym, subst, arith}
use Rattle.asn1_bits.specs.Bits.{bits}
use Rattle.asn1_schema.specs.declared.misfit.MisfitKind.TheVariants.{NoEncoding}
use Rattle.asn1_schema.specs.declared.part.Part.{Part}
use Rattle.asn1_schema.specs.Pieces.{Octets}
use Rattle.asn1_schema.specs.PiecesOfParts.{bits_of}
use Rattle.asn1_x690.specs.Der.{always}
use Rattle.asn1_x690.specs.Leaves.{IsKept, IsUtf8Text, leaf_of}
use Rattle.asn1_x691_writers.specs.Put.{piece_in}
use Rattle.asn1_x690_writers.specs.Put.{AreTooMany, IsPut, LeftAt}
use Rattle.asn1_x690_writers.specs.PutSteps.{leaf_put, leaf_none, rejected, span_length}
use Rattle.asn1_x690_writers.proofs.utf8_strings.put_utf8_string.Goals as goal

pub returns-then-not-is_valid : goal.returns-then-not-is_valid
returns-then-not-is_valid c ranges =
    let a = c.args in
    let s = c.clip-inside.result in
    let list = bits_of (bits a.source.now) s in
    let p = piece_in ranges a.source.now a.part in
    let e : p ≡ Octets list = ap (piece_in ranges a.source.now) c.in-Octets.is ∙ ap Octets (sym c.clip-inside.ensures.same) in
    let k = c.reject in
    rejected (LeftAt (AreTooMany p) a.node k.new.state) (leaf_of (IsKept IsUtf8Text) (always {X = List Bool}) Octets a.node) p a.octets.now a.state.now
    k.new.state k.result a.node NoEncoding k.ensures.result k.ensures.at k.ensures.next k.ensures.node k.ensures.reason
    (leaf_none (IsKept IsUtf8Text) (always {X = List Bool}) Octets a.node p list e
    (λ l kept permitted. c.is_valid.ensures.no c.if-not-is_valid.true (subst IsUtf8Text (sym kept.0) kept.1)))

pub returns-else-not-is_valid : goal.returns-else-not-is_valid
returns-else-not-is_valid c ranges =
    let a = c.args in
    let s = c.clip-inside.result in
    let list = bits_of (bits a.source.now) s in
    leaf_put (IsKept IsUtf8Text) (always {X = List Bool}) Octets a.node (piece_in ranges a.source.now a.part) list list a.octets.now
    a.state.now c.put_span-state.new.octets c.put_span-state.result
    (ap (piece_in ranges a.source.now) c.in-Octets.is ∙ ap Octets (sym c.clip-inside.ensures.same))
    (refl, c.is_valid.ensures.yes c.if-not-is_valid.false) tt
    (let h = span_length a.source.now s c.clip-inside.ensures.inside in omega (arith, h, c.is_valid.ensures.whole c.if-not-is_valid.false))
    c.put_span-state.ensures

pub returns-in-OctetsInFragments : goal.returns-in-OctetsInFragments
returns-in-OctetsInFragments c ranges =
    let a = c.args in
    let k = c.put_joined in
    subst
    (λ (p : Part). IsPut (LeftAt (AreTooMany (piece_in ranges a.source.now p)) a.node k.new.state)
    (leaf_of (IsKept IsUtf8Text) (always {X = List Bool}) Octets a.node) (piece_in ranges a.source.now p) a.octets.now a.state.now
    k.new.octets k.new.state k.result) (sym c.in-OctetsInFragments.is) k.ensures
