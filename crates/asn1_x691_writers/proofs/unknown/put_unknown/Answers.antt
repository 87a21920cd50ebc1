use Rattle.asn1_x691.specs.Fragments.{most_fragments}
use Rattle.std.proofs.Common.{◌≡◌, ℕ, ◌*◌, ◌/◌, refl, sym, ap, ◌∙◌, subst, arith}
use Rattle.asn1_bits.specs.Bits.{bits}
use Rattle.asn1_bits.specs.Laws.DigitLaws.{length-bits}
use Rattle.asn1_schema.specs.declared.misfit.MisfitKind.TheVariants.{NoEncoding}
use Rattle.asn1_schema.specs.Pieces.{Unknown}
use Rattle.asn1_schema.specs.PiecesOfParts.{bits_at, bits_of}
use Rattle.asn1_schema.specs.TypeEncodings.{leaf}
use Rattle.asn1_x691.specs.Fragments.{octets}
use Rattle.asn1_x691_fields.specs.Steps.{front_length}
use Rattle.asn1_x691_writers.specs.Put.{piece_in}
use Rattle.asn1_x691_writers.specs.Written.{IsWritten}
use Rattle.asn1_x691_writers.specs.LeafSteps.{leaf_written, leaf_none}
use Rattle.asn1_x691_writers.specs.PutSteps.{rejected}
use Rattle.asn1_x691_writers.specs.SizeSteps.{whole_octets}
use Rattle.asn1_x691_writers.proofs.unknown.put_unknown.Goals as goal

pub returns-then-inside-gt0 : goal.returns-then-inside-gt0
returns-then-inside-gt0 c ranges =
    let aligned = c.args.is_aligned in
    let node = c.args.node in
    let span = c.clip-inside.result in
    let list = bits_of (bits c.args.source.now) span in
    let e = ap (piece_in ranges c.args.source.now) c.in-Unknown.is ∙ ap Unknown (sym c.clip-inside.ensures.same) in
    let n = front_length (bits c.args.source.now) span.at span.count (omega (arith, c.clip-inside.ensures.inside, length-bits c.args.source.now)) in
    rejected aligned (leaf (octets most_fragments aligned node) Unknown node) (piece_in ranges c.args.source.now c.args.part) c.args.octets.now c.args.state.now
    c.reject.new.state c.reject.result node NoEncoding c.reject.ensures.result c.reject.ensures.at c.reject.ensures.next
    c.reject.ensures.node c.reject.ensures.reason
    (leaf_none (octets most_fragments aligned node) Unknown node (piece_in ranges c.args.source.now c.args.part) list e
    (λ at p. let w = whole_octets aligned node at list p.list p.encoded in omega (arith, w.1, n, c.if-inside-gt0.true)))

pub returns-else-inside-gt0 : goal.returns-else-inside-gt0
returns-else-inside-gt0 c ranges =
    let aligned = c.args.is_aligned in
    let node = c.args.node in
    let span = c.clip-inside.result in
    let source = bits c.args.source.now in
    let list = bits_of source span in
    let was = c.args.octets.now in
    let now = c.put_octets-state.new.octets in
    let new = c.put_octets-state.result in
    let is = ap (piece_in ranges c.args.source.now) c.in-Unknown.is ∙ ap Unknown (sym c.clip-inside.ensures.same) in
    let e : 8 * (span.count / 8) ≡ span.count = omega (arith, c.if-inside-gt0.false) in
    record {
      written = leaf_written (octets most_fragments aligned node) Unknown node aligned list (piece_in ranges c.args.source.now c.args.part) was now c.args.state.now.at
          new is
          (subst (λ (k : ℕ). IsWritten aligned (octets most_fragments aligned node) (bits_at source span.at k) was c.args.state.now.at now new) e
          (c.put_octets-state.ensures node));
      next = refl;
    }
