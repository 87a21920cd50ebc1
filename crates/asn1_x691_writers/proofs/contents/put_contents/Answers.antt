use Rattle.asn1_x691.specs.Fragments.{most_fragments}
use Rattle.std.proofs.Common.{◌≡◌, ℕ, ◌*◌, ◌/◌, List, Bool, refl, sym, ap, ◌∙◌, subst, arith}
use Rattle.asn1_bits.specs.Bits.{bits}
use Rattle.asn1_schema.specs.declared.misfit.MisfitKind.TheVariants.{NoEncoding}
use Rattle.asn1_schema.specs.Pieces.{Piece, Octets}
use Rattle.asn1_schema.specs.PiecesOfParts.{bits_at, bits_of, joined}
use Rattle.asn1_schema.specs.Encodings.{Encoding, permitted}
use Rattle.asn1_schema.specs.Laws.PermittedLaws.{permitted_is}
use Rattle.asn1_x691.specs.declared.fault.FaultKind.{FaultKind}
use Rattle.asn1_x691.specs.declared.fault.FaultKind.TheVariants.{Contents}
use Rattle.asn1_x691.specs.Fragments.{octets}
use Rattle.asn1_x691.specs.Leaves.{contents}
use Rattle.asn1_x691_writers.specs.declared.contents.ContentsKind.{ContentsKind}
use Rattle.asn1_x691_writers.specs.Put.{IsPut, piece_in}
use Rattle.asn1_x691_writers.specs.Written.{IsWritten}
use Rattle.asn1_x691_writers.specs.FieldSteps.{permitted_written}
use Rattle.asn1_x691_writers.specs.LeafSteps.{leaf_written, leaf_none}
use Rattle.asn1_x691_writers.specs.PutSteps.{rejected}
use Rattle.asn1_x691_writers.specs.Validity.{IsValid}
use Rattle.asn1_x691_writers.proofs.contents.put_contents.Goals as goal

pub returns-then-not-is_valid : goal.returns-then-not-is_valid
returns-then-not-is_valid c ranges =
    let aligned = c.args.is_aligned in
    let node = c.args.node in
    let V = IsValid c.args.kind in
    let N = λ (l : List Bool). ¬ (V l) in
    let A : ℕ → Encoding FaultKind (List Bool) = octets most_fragments aligned node in
    let list = bits_of (bits c.args.source.now) c.clip-inside.result in
    let e = ap (piece_in ranges c.args.source.now) c.in-Octets.is ∙ ap Octets (sym c.clip-inside.ensures.same) in
    rejected aligned (contents most_fragments aligned node V) (piece_in ranges c.args.source.now c.args.part) c.args.octets.now c.args.state.now
    c.reject.new.state c.reject.result node NoEncoding c.reject.ensures.result c.reject.ensures.at c.reject.ensures.next
    c.reject.ensures.node c.reject.ensures.reason
    (leaf_none (permitted V N Contents node A) Octets node (piece_in ranges c.args.source.now c.args.part) list e
    (λ at p. c.is_valid.ensures.no c.if-not-is_valid.true (permitted_is V N Contents node A at list p.list p.encoded)))

pub returns-else-not-is_valid : goal.returns-else-not-is_valid
returns-else-not-is_valid c ranges =
    let aligned = c.args.is_aligned in
    let node = c.args.node in
    let V = IsValid c.args.kind in
    let N = λ (l : List Bool). ¬ (V l) in
    let A : ℕ → Encoding FaultKind (List Bool) = octets most_fragments aligned node in
    let span = c.clip-inside.result in
    let source = bits c.args.source.now in
    let list = bits_of source span in
    let was = c.args.octets.now in
    let now = c.put_octets-state.new.octets in
    let old = c.args.state.now.at in
    let new = c.put_octets-state.result in
    let is = ap (piece_in ranges c.args.source.now) c.in-Octets.is ∙ ap Octets (sym c.clip-inside.ensures.same) in
    let e : 8 * (span.count / 8) ≡ span.count = omega (arith, c.is_valid.ensures.whole c.if-not-is_valid.false) in
    let w : IsWritten aligned A list was old now new =
    subst (λ (k : ℕ). IsWritten aligned A (bits_at source span.at k) was old now new) e (c.put_octets-state.ensures node) in
    record {
      written = leaf_written (permitted V N Contents node A) Octets node aligned list (piece_in ranges c.args.source.now c.args.part) was now old new is
          (permitted_written aligned V N Contents node A list was now old new (c.is_valid.ensures.yes c.if-not-is_valid.false) w);
      next = refl;
    }

pub returns-in-Utf8 : goal.returns-in-Utf8
returns-in-Utf8 c ranges =
    let a = c.args in
    let k = c.put_utf8_in_fragments in
    let e = ap (piece_in ranges a.source.now) c.in-OctetsInFragments.is in
    subst
    (λ (p : Piece). IsPut a.is_aligned (contents most_fragments a.is_aligned a.node (IsValid a.kind)) p a.octets.now a.state.now k.new.octets
    k.new.state k.result) (sym e)
    (subst
    (λ (kind : ContentsKind). IsPut a.is_aligned (contents most_fragments a.is_aligned a.node (IsValid kind))
    (Octets (joined 8 (bits a.source.now) c.in-OctetsInFragments.fragments)) a.octets.now a.state.now k.new.octets k.new.state k.result)
    (sym c.in-Utf8.is) k.ensures)
