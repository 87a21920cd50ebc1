use Rattle.asn1_x691.specs.Fragments.{most_fragments}
use Rattle.std.proofs.Common.{◌≡◌, ℕ, ◌*◌, ◌/◌, refl, subst, arith}
use Rattle.asn1_bits.specs.Bits.{bits}
use Rattle.asn1_bits.specs.Laws.DigitLaws.{length-bits}
use Rattle.asn1_schema.specs.declared.misfit.MisfitKind.TheVariants.{NoEncoding}
use Rattle.asn1_schema.specs.Pieces.{Octets}
use Rattle.asn1_schema.specs.PiecesOfParts.{bits_at}
use Rattle.asn1_schema.specs.TypeEncodings.{leaf}
use Rattle.asn1_x691.specs.Strings.{string_of}
use Rattle.asn1_x691.specs.Laws.PieceLaws.{eight_apart}
use Rattle.asn1_x691_fields.specs.Steps.{front_length}
use Rattle.asn1_x691_writers.specs.Written.{IsWritten}
use Rattle.asn1_x691_writers.specs.LeafSteps.{leaf_written, leaf_none}
use Rattle.asn1_x691_writers.specs.PutSteps.{rejected}
use Rattle.asn1_x691_writers.specs.SizeSteps.{whole_units, none_of_root}
use Rattle.asn1_x691_writers.proofs.octet_strings.put_octets_of_root.Goals as goal

pub returns-then-span-gt0 : goal.returns-then-span-gt0
returns-then-span-gt0 c =
    let aligned = c.args.is_aligned in
    let node = c.args.node in
    let size = c.args.size in
    let count = c.args.span.count in
    let list = bits_at (bits c.args.source.now) c.args.span.at count in
    let n = front_length (bits c.args.source.now) c.args.span.at count (omega (arith, c.requires.inside, length-bits c.args.source.now)) in
    rejected aligned (leaf (string_of most_fragments aligned 8 size node) Octets node) (Octets list) c.args.octets.now c.args.state.now c.reject.new.state
    c.reject.result node NoEncoding c.reject.ensures.result c.reject.ensures.at c.reject.ensures.next c.reject.ensures.node
    c.reject.ensures.reason
    (leaf_none (string_of most_fragments aligned 8 size node) Octets node (Octets list) list refl
    (λ at p. let e = whole_units aligned 8 node size at list p.list p.encoded in omega (arith, e.1, n, c.if-span-gt0.true)))

pub returns-then-not-is_of_root : goal.returns-then-not-is_of_root
returns-then-not-is_of_root c =
    let aligned = c.args.is_aligned in
    let node = c.args.node in
    let size = c.args.size in
    let count = c.args.span.count in
    let list = bits_at (bits c.args.source.now) c.args.span.at count in
    let n = front_length (bits c.args.source.now) c.args.span.at count (omega (arith, c.requires.inside, length-bits c.args.source.now)) in
    rejected aligned (leaf (string_of most_fragments aligned 8 size node) Octets node) (Octets list) c.args.octets.now c.args.state.now c.reject-then-not-is_of_root.new.state
    c.reject-then-not-is_of_root.result node NoEncoding c.reject-then-not-is_of_root.ensures.result c.reject-then-not-is_of_root.ensures.at c.reject-then-not-is_of_root.ensures.next c.reject-then-not-is_of_root.ensures.node
    c.reject-then-not-is_of_root.ensures.reason
    (leaf_none (string_of most_fragments aligned 8 size node) Octets node (Octets list) list refl
    (λ at p.
    none_of_root aligned 8 node eight_apart size (count / 8) at list (omega (arith, n, c.if-span-gt0.false))
    (c.is_of_root.ensures.added c.if-not-is_of_root.true) p))

pub returns : goal.returns
returns c =
    let aligned = c.args.is_aligned in
    let node = c.args.node in
    let size = c.args.size in
    let count = c.args.span.count in
    let source = bits c.args.source.now in
    let was = c.args.octets.now in
    let now = c.put_string_of-state.new.octets in
    let old = c.args.state.now.at in
    let new = c.put_string_of-state.result in
    let e : 8 * (count / 8) ≡ count = omega (arith, c.if-span-gt0.false) in
    record {
      written = leaf_written (string_of most_fragments aligned 8 size node) Octets node aligned (bits_at source c.args.span.at count)
          (Octets (bits_at source c.args.span.at count)) was now old new refl
          (subst (λ (k : ℕ). IsWritten aligned (string_of most_fragments aligned 8 size node) (bits_at source c.args.span.at k) was old now new) e
          (c.put_string_of-state.ensures node));
      next = refl;
    }
