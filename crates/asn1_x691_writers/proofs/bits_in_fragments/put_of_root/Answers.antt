use Rattle.std.proofs.Common.{◌≡◌, ℕ, ◌*◌, refl, sym, ap, ◌∙◌, subst, arith}
use Rattle.asn1_bits.specs.Bits.{bits}
use Rattle.asn1_schema.specs.declared.misfit.MisfitKind.TheVariants.{NoEncoding}
use Rattle.asn1_schema.specs.Pieces.{Bits}
use Rattle.asn1_schema.specs.PiecesOfParts.{bits_at}
use Rattle.asn1_schema.specs.TypeEncodings.{leaf}
use Rattle.asn1_x691.specs.Fragments.{most_fragments}
use Rattle.asn1_x691.specs.Strings.{string_of}
use Rattle.asn1_x691.specs.Leaves.{bits_by}
use Rattle.asn1_x691.specs.Laws.PieceLaws.{one_apart}
use Rattle.asn1_x691_writers.specs.Joined.{bits_in}
use Rattle.asn1_x691_writers.specs.Written.{IsWritten}
use Rattle.asn1_x691_writers.specs.LeafSteps.{leaf_written, leaf_none}
use Rattle.asn1_x691_writers.specs.PutSteps.{rejected}
use Rattle.asn1_x691_writers.specs.SizeSteps.{none_of_root, named_written, named_none, unnamed_none}
use Rattle.asn1_x691_writers.proofs.JoinedLemmas.{all_units}
use Rattle.asn1_x691_writers.proofs.bits_in_fragments.put_of_root.Goals as goal

pub returns-then-not-is_of_root : goal.returns-then-not-is_of_root
returns-then-not-is_of_root c =
    let aligned = c.args.is_aligned in
    let node = c.args.node in
    let size = c.args.size in
    let names = c.args.has_names in
    let count = c.args.count in
    let A = string_of most_fragments aligned 1 size node in
    let list = bits_in (bits c.args.source.now) c.args.joined.now in
    rejected aligned (leaf (bits_by aligned node names size A) Bits node) (Bits list) c.args.octets.now c.args.state.now c.reject.new.state
    c.reject.result node NoEncoding c.reject.ensures.result c.reject.ensures.at c.reject.ensures.next c.reject.ensures.node
    c.reject.ensures.reason
    (leaf_none (bits_by aligned node names size A) Bits node (Bits list) list refl
    (λ at p.
    unnamed_none aligned node size A list names at
    (none_of_root aligned 1 node one_apart size count at list (omega (arith, c.requires.all))
    (c.is_of_root.ensures.added c.if-not-is_of_root.true)) p))

pub returns-then-not-are_permitted : goal.returns-then-not-are_permitted
returns-then-not-are_permitted c =
    let aligned = c.args.is_aligned in
    let node = c.args.node in
    let size = c.args.size in
    let names = c.args.has_names in
    let A = string_of most_fragments aligned 1 size node in
    let list = bits_in (bits c.args.source.now) c.args.joined.now in
    let k = c.reject-then-not-are_permitted in
    rejected aligned (leaf (bits_by aligned node names size A) Bits node) (Bits list) c.args.octets.now c.args.state.now
    k.new.state k.result node NoEncoding k.ensures.result k.ensures.at k.ensures.next k.ensures.node k.ensures.reason
    (leaf_none (bits_by aligned node names size A) Bits node (Bits list) list refl
    (λ at p. named_none aligned node size A list names at (c.are_permitted.ensures.forbidden c.if-not-are_permitted.true) p))

pub put_joined_of-state-requires-clause-all : goal.put_joined_of-state-requires-clause-all
put_joined_of-state-requires-clause-all c = omega (arith, ap (λ (u : ℕ). u * c.args.count) c.requires.unit, c.requires.all)

pub returns : goal.returns
returns c =
    let aligned = c.args.is_aligned in
    let node = c.args.node in
    let size = c.args.size in
    let names = c.args.has_names in
    let count = c.args.count in
    let A = string_of most_fragments aligned 1 size node in
    let was = c.args.octets.now in
    let now = c.put_joined_of-state.new.octets in
    let old = c.args.state.now.at in
    let new = c.put_joined_of-state.result in
    let list = bits_in (bits c.args.source.now) c.args.joined.now in
    record {
      written = leaf_written (bits_by aligned node names size A) Bits node aligned list (Bits list) was now old new refl
          (named_written aligned node size A list names was now old new (c.are_permitted.ensures.permitted c.if-not-are_permitted.false)
          (all_units (λ u. string_of most_fragments aligned u size node) aligned list c.args.joined.now.unit 1 count was now old new c.requires.unit
          (omega (arith, c.requires.all)) (c.put_joined_of-state.ensures node)));
      next = refl;
    }
