use Rattle.asn1_x691.specs.Fragments.{most_fragments}
use Rattle.std.proofs.Common.{Bool, true, lt_of_not-le, sym, ap, ◌∙◌, subst}
use Rattle.asn1_schema.specs.declared.part.Part.{Part}
use Rattle.asn1_schema.specs.Pieces.{Piece, Bits}
use Rattle.asn1_x691.specs.Leaves.{bit_string}
use Rattle.asn1_x691_writers.specs.Put.{IsPut, piece_in}
use Rattle.asn1_x691_writers.proofs.bit_strings.put_bit_string.Goals as goal

pub returns-then-is_extensible : goal.returns-then-is_extensible
returns-then-is_extensible c ranges =
    let T = λ (b : Bool). bit_string most_fragments c.args.is_aligned c.args.node c.args.size b c.args.has_names in
    let e = ap (piece_in ranges c.args.source.now) c.in-Bits.is ∙ ap Bits (sym c.clip-inside.ensures.same) in
    subst
    (λ (b : Bool). IsPut c.args.is_aligned (T b) (piece_in ranges c.args.source.now c.args.part) c.args.octets.now c.args.state.now
    c.put_extensible.new.octets c.put_extensible.new.state c.put_extensible.result) (sym c.if-is_extensible.true)
    (subst
    (λ (p : Piece). IsPut c.args.is_aligned (T true) p c.args.octets.now c.args.state.now
    c.put_extensible.new.octets c.put_extensible.new.state c.put_extensible.result) (sym e) c.put_extensible.ensures)

pub put_bits_in_fragments-requires-clause-few : goal.put_bits_in_fragments-requires-clause-few
put_bits_in_fragments-requires-clause-few c =
    let a = c.args in
    lt_of_not-le (λ many. c.requires.few (c.in-BitsInFragments.fragments, c.in-BitsInFragments.is, many))

pub returns-in-BitsInFragments : goal.returns-in-BitsInFragments
returns-in-BitsInFragments c ranges =
    let a = c.args in
    let k = c.put_bits_in_fragments in
    subst
    (λ (p : Part). IsPut a.is_aligned (bit_string most_fragments a.is_aligned a.node a.size a.is_extensible a.has_names)
    (piece_in ranges a.source.now p) a.octets.now a.state.now k.new.octets k.new.state k.result) (sym c.in-BitsInFragments.is) k.ensures
