use Rattle.std.proofs.Common.{◌≡◌, ℕ, ◌*◌, ◌/◌, List, Bool, length, refl, sym, ap, ◌∙◌, subst, arith}
use Rattle.asn1_bits.specs.Bits.{bits}
use Rattle.asn1_schema.specs.declared.misfit.MisfitKind.TheVariants.{NoEncoding}
use Rattle.asn1_schema.specs.Pieces.{Octets}
use Rattle.asn1_schema.specs.PiecesOfParts.{bits_at, joined}
use Rattle.asn1_schema.specs.TypeEncodings.{leaf}
use Rattle.asn1_x691.specs.Fragments.{most_fragments}
use Rattle.asn1_x691_writers.specs.Joined.{bits_in}
use Rattle.asn1_x691_writers.specs.JoinedSteps.{whole_list}
use Rattle.asn1_x691_writers.specs.PutSteps.{rejected}
use Rattle.asn1_x691_writers.specs.Written.{IsWritten}
use Rattle.asn1_x691.specs.Strings.{string_of}
use Rattle.asn1_x691.specs.Laws.PieceLaws.{eight_apart}
use Rattle.asn1_x691_writers.specs.LeafSteps.{leaf_written, leaf_none}
use Rattle.asn1_x691_writers.specs.SizeSteps.{whole_units, none_of_root}
use Rattle.asn1_x691_writers.proofs.octet_strings.put_fragments_of_root.Goals as goal

pub returns-then-total-gt0 : goal.returns-then-total-gt0
returns-then-total-gt0 c =
    let aligned = c.args.is_aligned in
    let node = c.args.node in
    let size = c.args.size in
    let total = c.size_of-total.result in
    let list = joined 8 (bits c.args.source.now) c.args.fragments in
    let same = c.joined_of-joined.ensures.same in
    let n : length (joined 8 (bits c.args.source.now) c.args.fragments) ≡ c.size_of-total.result =
    ap length (sym same) ∙ sym c.size_of-total.ensures.size in
    rejected aligned (leaf (string_of most_fragments aligned 8 size node) Octets node) (Octets list) c.args.octets.now c.args.state.now
    c.reject.new.state c.reject.result node NoEncoding c.reject.ensures.result c.reject.ensures.at c.reject.ensures.next
    c.reject.ensures.node c.reject.ensures.reason
    (leaf_none (string_of most_fragments aligned 8 size node) Octets node (Octets list) list refl
    (λ at p. let e = whole_units aligned 8 node size at list p.list p.encoded in omega (arith, e.1, n, c.if-total-gt0.true)))

pub returns-then-not-is_of_root : goal.returns-then-not-is_of_root
returns-then-not-is_of_root c =
    let aligned = c.args.is_aligned in
    let node = c.args.node in
    let size = c.args.size in
    let total = c.size_of-total.result in
    let list = joined 8 (bits c.args.source.now) c.args.fragments in
    let same = c.joined_of-joined.ensures.same in
    let n : length (joined 8 (bits c.args.source.now) c.args.fragments) ≡ c.size_of-total.result =
    ap length (sym same) ∙ sym c.size_of-total.ensures.size in
    let k = c.reject-then-not-is_of_root in
    rejected aligned (leaf (string_of most_fragments aligned 8 size node) Octets node) (Octets list) c.args.octets.now c.args.state.now
    k.new.state k.result node NoEncoding k.ensures.result k.ensures.at k.ensures.next k.ensures.node k.ensures.reason
    (leaf_none (string_of most_fragments aligned 8 size node) Octets node (Octets list) list refl
    (λ at p.
    none_of_root aligned 8 node eight_apart size (total / 8) at list (omega (arith, n, c.if-total-gt0.false))
    (c.is_of_root.ensures.added c.if-not-is_of_root.true) p))

pub returns : goal.returns
returns c =
    let aligned = c.args.is_aligned in
    let node = c.args.node in
    let size = c.args.size in
    let total = c.size_of-total.result in
    let list = joined 8 (bits c.args.source.now) c.args.fragments in
    let same = c.joined_of-joined.ensures.same in
    let n : length (joined 8 (bits c.args.source.now) c.args.fragments) ≡ c.size_of-total.result =
    ap length (sym same) ∙ sym c.size_of-total.ensures.size in
    let whole = bits_in (bits c.args.source.now) c.joined_of-joined.result in
    let e = whole_list whole (8 * (total / 8)) (omega (arith, c.size_of-total.ensures.size, c.if-total-gt0.false)) ∙ same in
    let was = c.args.octets.now in
    let now = c.put_joined_of-state.new.octets in
    let old = c.args.state.now.at in
    let new = c.put_joined_of-state.result in
    record {
      written = leaf_written (string_of most_fragments aligned 8 size node) Octets node aligned list (Octets list) was now old new refl
          (subst (λ (l : List Bool). IsWritten aligned (string_of most_fragments aligned 8 size node) l was old now new) e
          (subst (λ (u : ℕ). IsWritten aligned (string_of most_fragments aligned u size node) (bits_at whole 0 (u * (total / 8))) was old now new)
          c.joined_of-joined.ensures.unit (c.put_joined_of-state.ensures node)));
      next = refl;
    }

pub put_joined_of-state-requires-clause-all : goal.put_joined_of-state-requires-clause-all
put_joined_of-state-requires-clause-all c =
    let total = c.size_of-total.result in
    let e = ap (λ (u : ℕ). u * (total / 8)) c.joined_of-joined.ensures.unit in
    omega (arith, e, c.size_of-total.ensures.size, c.if-total-gt0.false)
