use Rattle.std.proofs.Common.{◌≡◌, ℕ, ◌∙◌, List, Bool, length, ap, sym, subst}
use Rattle.asn1_bits.specs.Bits.{bits}
use Rattle.asn1_schema.specs.declared.misfit.MisfitKind.TheVariants.{NoEncoding}
use Rattle.asn1_schema.specs.declared.part.Part.{Part}
use Rattle.asn1_schema.specs.Pieces.{Bits}
use Rattle.asn1_schema.specs.PiecesOfParts.{bits_of}
use Rattle.asn1_x690.specs.Leaves.{AreTrimmed, HasSize, IsBitString, leaf_of}
use Rattle.asn1_x691_writers.specs.Put.{piece_in}
use Rattle.asn1_x690_writers.specs.Put.{AreTooManyBits, IsPut, LeftAt}
use Rattle.asn1_x690_writers.specs.PutSteps.{leaf_put, leaf_none, rejected, span_length}
use Rattle.asn1_x690_writers.proofs.bit_strings.put_bit_string.Goals as goal

pub returns-then-not-has_size : goal.returns-then-not-has_size
returns-then-not-has_size c ranges =
    let a = c.args in
    let s = c.clip-inside.result in
    let list = bits_of (bits a.source.now) s in
    let p = piece_in ranges a.source.now a.part in
    let e : p ≡ Bits list = ap (piece_in ranges a.source.now) c.in-Bits.is ∙ ap Bits (sym c.clip-inside.ensures.same) in
    let h = span_length a.source.now s c.clip-inside.ensures.inside in
    let k = c.reject in
    let Yes : List Bool → Type 0 = λ xs. HasSize a.is_extensible a.size (length xs) × AreTrimmed a.has_names a.size xs in
    rejected (LeftAt (AreTooManyBits p) a.node k.new.state) (leaf_of IsBitString Yes Bits a.node) p a.octets.now a.state.now k.new.state k.result a.node NoEncoding
    k.ensures.result k.ensures.at k.ensures.next k.ensures.node k.ensures.reason
    (leaf_none IsBitString Yes Bits a.node p list e
    (λ l are permitted. c.has_size.ensures.no c.if-not-has_size.true
    (subst (λ (n : ℕ). HasSize a.is_extensible a.size n) h permitted.0)))

pub returns-then-not-are_bits_permitted : goal.returns-then-not-are_bits_permitted
returns-then-not-are_bits_permitted c ranges =
    let a = c.args in
    let s = c.clip-inside.result in
    let list = bits_of (bits a.source.now) s in
    let p = piece_in ranges a.source.now a.part in
    let e : p ≡ Bits list = ap (piece_in ranges a.source.now) c.in-Bits.is ∙ ap Bits (sym c.clip-inside.ensures.same) in
    let k = c.reject-then-not-are_bits_permitted in
    let Yes : List Bool → Type 0 = λ xs. HasSize a.is_extensible a.size (length xs) × AreTrimmed a.has_names a.size xs in
    rejected (LeftAt (AreTooManyBits p) a.node k.new.state) (leaf_of IsBitString Yes Bits a.node) p a.octets.now a.state.now k.new.state k.result a.node NoEncoding
    k.ensures.result k.ensures.at k.ensures.next k.ensures.node k.ensures.reason
    (leaf_none IsBitString Yes Bits a.node p list e
    (λ l are permitted. c.are_bits_permitted.ensures.no c.if-not-are_bits_permitted.true permitted.1))

pub returns-else-not-are_bits_permitted : goal.returns-else-not-are_bits_permitted
returns-else-not-are_bits_permitted c ranges =
    let a = c.args in
    let s = c.clip-inside.result in
    let list = bits_of (bits a.source.now) s in
    let h = span_length a.source.now s c.clip-inside.ensures.inside in
    let w = c.put_string-state.ensures in
    let Yes : List Bool → Type 0 = λ xs. HasSize a.is_extensible a.size (length xs) × AreTrimmed a.has_names a.size xs in
    leaf_put IsBitString Yes Bits a.node (piece_in ranges a.source.now a.part) list w.list a.octets.now a.state.now
    c.put_string-state.new.octets c.put_string-state.result
    (ap (piece_in ranges a.source.now) c.in-Bits.is ∙ ap Bits (sym c.clip-inside.ensures.same)) w.encodes (
      subst (λ (n : ℕ). HasSize a.is_extensible a.size n) (sym h) (c.has_size.ensures.yes c.if-not-has_size.false),
      c.are_bits_permitted.ensures.yes c.if-not-are_bits_permitted.false,
    ) w.whole w.grown

pub returns-in-BitsInFragments : goal.returns-in-BitsInFragments
returns-in-BitsInFragments c ranges =
    let a = c.args in
    let k = c.put_bits_in_fragments in
    let Yes : List Bool → Type 0 = λ xs. HasSize a.is_extensible a.size (length xs) × AreTrimmed a.has_names a.size xs in
    subst
    (λ (p : Part). IsPut (LeftAt (AreTooManyBits (piece_in ranges a.source.now p)) a.node k.new.state)
    (leaf_of IsBitString Yes Bits a.node) (piece_in ranges a.source.now p) a.octets.now a.state.now k.new.octets k.new.state k.result)
    (sym c.in-BitsInFragments.is) k.ensures
