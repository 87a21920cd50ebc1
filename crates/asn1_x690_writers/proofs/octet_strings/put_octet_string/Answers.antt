use Rattle.std.proofs.Common.{◌≡◌, ℕ, ◌*◌, ◌/◌, length, refl, ap, ◌∙◌, sym, subst, arith}
use Rattle.asn1_bits.specs.Bits.{bits}
use Rattle.asn1_schema.specs.declared.misfit.MisfitKind.TheVariants.{NoEncoding}
use Rattle.asn1_schema.specs.declared.part.Part.{Part}
use Rattle.asn1_schema.specs.Pieces.{Octets}
use Rattle.asn1_schema.specs.PiecesOfParts.{bits_of}
use Rattle.asn1_x690.specs.Leaves.{AreOctets, AreSized, HasSize, leaf_of}
use Rattle.asn1_x691_writers.specs.Put.{piece_in}
use Rattle.asn1_x690_writers.specs.Put.{AreTooMany, IsPut, LeftAt}
use Rattle.asn1_x690_writers.specs.PutSteps.{leaf_put, leaf_none, rejected, span_length}
use Rattle.asn1_x690_writers.proofs.octet_strings.put_octet_string.Goals as goal

pub returns-then-inside-gt0 : goal.returns-then-inside-gt0
returns-then-inside-gt0 c ranges =
    let a = c.args in
    let s = c.clip-inside.result in
    let list = bits_of (bits a.source.now) s in
    let p = piece_in ranges a.source.now a.part in
    let e : p ≡ Octets list = ap (piece_in ranges a.source.now) c.in-Octets.is ∙ ap Octets (sym c.clip-inside.ensures.same) in
    let h = span_length a.source.now s c.clip-inside.ensures.inside in
    let k = c.reject in
    rejected (LeftAt (AreTooMany p) a.node k.new.state) (leaf_of AreOctets (AreSized a.is_extensible a.size) Octets a.node) p a.octets.now a.state.now k.new.state
    k.result a.node NoEncoding k.ensures.result k.ensures.at k.ensures.next k.ensures.node k.ensures.reason
    (leaf_none AreOctets (AreSized a.is_extensible a.size) Octets a.node p list e
    (λ l are sized. let n = sized.1 in omega (arith, h, n, c.if-inside-gt0.true)))

pub returns-then-not-has_size : goal.returns-then-not-has_size
returns-then-not-has_size c ranges =
    let a = c.args in
    let s = c.clip-inside.result in
    let list = bits_of (bits a.source.now) s in
    let p = piece_in ranges a.source.now a.part in
    let e : p ≡ Octets list = ap (piece_in ranges a.source.now) c.in-Octets.is ∙ ap Octets (sym c.clip-inside.ensures.same) in
    let h = span_length a.source.now s c.clip-inside.ensures.inside in
    let k = c.reject-then-not-has_size in
    rejected (LeftAt (AreTooMany p) a.node k.new.state) (leaf_of AreOctets (AreSized a.is_extensible a.size) Octets a.node) p a.octets.now a.state.now k.new.state
    k.result a.node NoEncoding k.ensures.result k.ensures.at k.ensures.next k.ensures.node k.ensures.reason
    (leaf_none AreOctets (AreSized a.is_extensible a.size) Octets a.node p list e
    (λ l are sized.
    let n : sized.0 ≡ s.count / 8 = omega (arith, h, sized.1) in
    c.has_size.ensures.no c.if-not-has_size.true (subst (λ (i : ℕ). HasSize a.is_extensible a.size i) n sized.2)))

pub returns-else-not-has_size : goal.returns-else-not-has_size
returns-else-not-has_size c ranges =
    let a = c.args in
    let s = c.clip-inside.result in
    let list = bits_of (bits a.source.now) s in
    let h = span_length a.source.now s c.clip-inside.ensures.inside in
    let n : length list ≡ 8 * (s.count / 8) = omega (arith, h, c.if-inside-gt0.false) in
    leaf_put AreOctets (AreSized a.is_extensible a.size) Octets a.node (piece_in ranges a.source.now a.part) list list a.octets.now
    a.state.now c.put_span-state.new.octets c.put_span-state.result
    (ap (piece_in ranges a.source.now) c.in-Octets.is ∙ ap Octets (sym c.clip-inside.ensures.same))
    (refl, (s.count / 8, n)) (s.count / 8, n, c.has_size.ensures.yes c.if-not-has_size.false)
    (omega (arith, n)) c.put_span-state.ensures

pub returns-in-OctetsInFragments : goal.returns-in-OctetsInFragments
returns-in-OctetsInFragments c ranges =
    let a = c.args in
    let k = c.put_joined in
    subst
    (λ (p : Part). IsPut (LeftAt (AreTooMany (piece_in ranges a.source.now p)) a.node k.new.state)
    (leaf_of AreOctets (AreSized a.is_extensible a.size) Octets a.node) (piece_in ranges a.source.now p) a.octets.now a.state.now
    k.new.octets k.new.state k.result) (sym c.in-OctetsInFragments.is) k.ensures
