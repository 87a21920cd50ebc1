use Rattle.asn1_x691.specs.Fragments.{most_fragments}
use Rattle.std.proofs.Common.{Bool, true, sym, ap, ◌∙◌, subst}
use Rattle.asn1_schema.specs.Pieces.{Piece, Octets}
use Rattle.asn1_x691.specs.Leaves.{octet_string}
use Rattle.asn1_x691_writers.specs.Put.{IsPut, piece_in}
use Rattle.asn1_x691_writers.proofs.octet_strings.put_octet_string.Goals as goal

pub returns-then-is_extensible : goal.returns-then-is_extensible
returns-then-is_extensible c ranges =
    let T = λ (b : Bool). octet_string most_fragments c.args.is_aligned c.args.node c.args.size b in
    let e = ap (piece_in ranges c.args.source.now) c.in-Octets.is ∙ ap Octets (sym c.clip-inside.ensures.same) in
    subst
    (λ (b : Bool). IsPut c.args.is_aligned (T b) (piece_in ranges c.args.source.now c.args.part) c.args.octets.now c.args.state.now
    c.put_extensible.new.octets c.put_extensible.new.state c.put_extensible.result) (sym c.if-is_extensible.true)
    (subst
    (λ (p : Piece). IsPut c.args.is_aligned (T true) p c.args.octets.now c.args.state.now
    c.put_extensible.new.octets c.put_extensible.new.state c.put_extensible.result) (sym e) c.put_extensible.ensures)

pub returns-then-is_extensible-2 : goal.returns-then-is_extensible-2
returns-then-is_extensible-2 c ranges =
    let T = λ (b : Bool). octet_string most_fragments c.args.is_aligned c.args.node c.args.size b in
    let e = ap (piece_in ranges c.args.source.now) c.in-OctetsInFragments.is in
    subst
    (λ (b : Bool). IsPut c.args.is_aligned (T b) (piece_in ranges c.args.source.now c.args.part) c.args.octets.now c.args.state.now
    c.put_extensible_fragments.new.octets c.put_extensible_fragments.new.state c.put_extensible_fragments.result)
    (sym c.if-is_extensible-2.true)
    (subst
    (λ (p : Piece). IsPut c.args.is_aligned (T true) p c.args.octets.now c.args.state.now
    c.put_extensible_fragments.new.octets c.put_extensible_fragments.new.state c.put_extensible_fragments.result) (sym e)
    c.put_extensible_fragments.ensures)
