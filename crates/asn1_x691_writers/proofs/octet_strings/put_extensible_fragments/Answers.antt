use Rattle.std.proofs.Common.{◌≡◌, ℕ, ◌*◌, ◌/◌, ◌∷◌, true, false, List, Bool, length, refl, sym, ap, ◌∙◌, subst, arith}
use Rattle.asn1_bits.specs.Bits.{bits}
use Rattle.asn1_schema.specs.declared.misfit.MisfitKind.TheVariants.{NoEncoding}
use Rattle.asn1_schema.specs.Pieces.{Octets}
use Rattle.asn1_schema.specs.PiecesOfParts.{bits_at, joined}
use Rattle.asn1_schema.specs.TypeEncodings.{leaf}
use Rattle.asn1_x691.specs.Fragments.{most_fragments}
use Rattle.asn1_x691_writers.specs.Joined.{bits_in}
use Rattle.asn1_x691_writers.specs.JoinedSteps.{whole_list}
use Rattle.asn1_x691_writers.specs.PutSteps.{rejected}
use Rattle.asn1_x691_writers.specs.Written.{IsWritten}
use Rattle.asn1_x691.specs.Leaves.{AreAddedOctets, octet_string}
use Rattle.asn1_x691.specs.Strings.{string_of, added_string}
use Rattle.asn1_x691_writers.specs.LeafSteps.{leaf_written, leaf_none, bit_written, root_misfit}
use Rattle.asn1_x691_writers.specs.SizeSteps.{whole_units}
use Rattle.asn1_x691_writers.proofs.octet_strings.put_extensible_fragments.Goals as goal

pub returns-then-total-gt0 : goal.returns-then-total-gt0
returns-then-total-gt0 c =
    let aligned = c.args.is_aligned in
    let node = c.args.node in
    let size = c.args.size in
    let total = c.size_of-total.result in
    let list = joined 8 (bits c.args.source.now) c.args.fragments in
    let same = c.joined_of-joined.ensures.same in
    let n : length (joined 8 (bits c.args.source.now) c.args.fragments) ≡ c.size_of-total.result =
    ap length (sym same) ∙ sym c.size_of-total.ensures.size in
    rejected aligned (octet_string most_fragments aligned node size true) (Octets list) c.args.octets.now c.args.state.now
    c.reject.new.state c.reject.result node NoEncoding c.reject.ensures.result c.reject.ensures.at c.reject.ensures.next
    c.reject.ensures.node c.reject.ensures.reason
    (root_misfit node (AreAddedOctets size) (leaf (string_of most_fragments aligned 8 size node) Octets node)
    (leaf (added_string most_fragments aligned 8 size node) Octets node) (Octets list)
    (λ rest. record { node = node; left = length (Octets list ∷ rest); kind = NoEncoding })
    (λ q. omega (arith, q.1, n, c.if-total-gt0.true))
    (leaf_none (string_of most_fragments aligned 8 size node) Octets node (Octets list) list refl
    (λ at p. let e = whole_units aligned 8 node size at list p.list p.encoded in omega (arith, e.1, n, c.if-total-gt0.true))))

pub returns-then-is_of_root : goal.returns-then-is_of_root
returns-then-is_of_root c =
    let aligned = c.args.is_aligned in
    let node = c.args.node in
    let size = c.args.size in
    let total = c.size_of-total.result in
    let list = joined 8 (bits c.args.source.now) c.args.fragments in
    let same = c.joined_of-joined.ensures.same in
    let n : length (joined 8 (bits c.args.source.now) c.args.fragments) ≡ c.size_of-total.result =
    ap length (sym same) ∙ sym c.size_of-total.ensures.size in
    let whole = bits_in (bits c.args.source.now) c.joined_of-joined.result in
    let e = whole_list whole (8 * (total / 8)) (omega (arith, c.size_of-total.ensures.size, c.if-total-gt0.false)) ∙ same in
    let was = c.args.octets.now in
    let mid = c.put_bit-root.new.octets in
    let now = c.put_joined_of-state.new.octets in
    let at = c.put_bit-root.result in
    let new = c.put_joined_of-state.result in
    record {
      written = bit_written node (AreAddedOctets size) (leaf (string_of most_fragments aligned 8 size node) Octets node)
          (leaf (added_string most_fragments aligned 8 size node) Octets node) (Octets list) aligned false was mid now c.args.state.now.at at new
          (c.put_bit-root.ensures aligned node)
          (leaf_written (string_of most_fragments aligned 8 size node) Octets node aligned list (Octets list) mid now at new refl
          (subst (λ (l : List Bool). IsWritten aligned (string_of most_fragments aligned 8 size node) l mid at now new) e
          (subst (λ (u : ℕ). IsWritten aligned (string_of most_fragments aligned u size node) (bits_at whole 0 (u * (total / 8))) mid at now new)
          c.joined_of-joined.ensures.unit (c.put_joined_of-state.ensures node))));
      next = refl;
    }

pub returns : goal.returns
returns c =
    let aligned = c.args.is_aligned in
    let node = c.args.node in
    let size = c.args.size in
    let total = c.size_of-total.result in
    let list = joined 8 (bits c.args.source.now) c.args.fragments in
    let same = c.joined_of-joined.ensures.same in
    let n : length (joined 8 (bits c.args.source.now) c.args.fragments) ≡ c.size_of-total.result =
    ap length (sym same) ∙ sym c.size_of-total.ensures.size in
    let whole = bits_in (bits c.args.source.now) c.joined_of-joined.result in
    let e = whole_list whole (8 * (total / 8)) (omega (arith, c.size_of-total.ensures.size, c.if-total-gt0.false)) ∙ same in
    let was = c.args.octets.now in
    let mid = c.put_bit-added.new.octets in
    let now = c.put_added_joined-state.new.octets in
    let at = c.put_bit-added.result in
    let new = c.put_added_joined-state.result in
    record {
      written = bit_written node (AreAddedOctets size) (leaf (string_of most_fragments aligned 8 size node) Octets node)
          (leaf (added_string most_fragments aligned 8 size node) Octets node) (Octets list) aligned true was mid now c.args.state.now.at at new
          (c.put_bit-added.ensures aligned node)
          (leaf_written (added_string most_fragments aligned 8 size node) Octets node aligned list (Octets list) mid now at new refl
          (subst (λ (l : List Bool). IsWritten aligned (added_string most_fragments aligned 8 size node) l mid at now new) e
          (subst (λ (u : ℕ). IsWritten aligned (added_string most_fragments aligned u size node) (bits_at whole 0 (u * (total / 8))) mid at now new)
          c.joined_of-joined.ensures.unit (c.put_added_joined-state.ensures size node (c.is_of_root.ensures.added c.if-is_of_root.false)))));
      next = refl;
    }

pub put_joined_of-state-requires-clause-all : goal.put_joined_of-state-requires-clause-all
put_joined_of-state-requires-clause-all c =
    let total = c.size_of-total.result in
    let e = ap (λ (u : ℕ). u * (total / 8)) c.joined_of-joined.ensures.unit in
    omega (arith, e, c.size_of-total.ensures.size, c.if-total-gt0.false)

pub put_added_joined-state-requires-clause-all : goal.put_added_joined-state-requires-clause-all
put_added_joined-state-requires-clause-all c =
    let total = c.size_of-total.result in
    let e = ap (λ (u : ℕ). u * (total / 8)) c.joined_of-joined.ensures.unit in
    omega (arith, e, c.size_of-total.ensures.size, c.if-total-gt0.false)
