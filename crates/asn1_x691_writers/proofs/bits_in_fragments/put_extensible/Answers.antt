use Rattle.std.proofs.Common.{◌≡◌, ℕ, ◌*◌, ◌∷◌, true, false, length, refl, sym, ap, ◌∙◌, subst, inl, inr, arith}
use Rattle.asn1_bits.specs.Bits.{bits}
use Rattle.asn1_schema.specs.declared.misfit.MisfitKind.TheVariants.{NoEncoding}
use Rattle.asn1_schema.specs.Pieces.{Bits, Parts}
use Rattle.asn1_schema.specs.TypeEncodings.{Misfit, leaf}
use Rattle.asn1_x691.specs.Fragments.{most_fragments}
use Rattle.asn1_x691.specs.Strings.{IsAddedSize, string_of, added_string}
use Rattle.asn1_x691.specs.Leaves.{AreAddedBits, bits_by, bit_string}
use Rattle.asn1_x691.specs.Laws.StringLaws.{sizes_apart}
use Rattle.asn1_x691_writers.specs.Joined.{bits_in}
use Rattle.asn1_x691_writers.specs.LeafSteps.{leaf_written, leaf_none, bit_written, root_misfit, added_misfit}
use Rattle.asn1_x691_writers.specs.PutSteps.{rejected}
use Rattle.asn1_x691_writers.specs.SizeSteps.{root_or_added, named_written, named_none}
use Rattle.asn1_x691_writers.proofs.JoinedLemmas.{all_units}
use Rattle.asn1_x691_writers.proofs.bits_in_fragments.put_extensible.Goals as goal

pub returns-then-not-are_permitted : goal.returns-then-not-are_permitted
returns-then-not-are_permitted c =
    let aligned = c.args.is_aligned in
    let node = c.args.node in
    let size = c.args.size in
    let names = c.args.has_names in
    let count = c.args.count in
    let A = string_of most_fragments aligned 1 size node in
    let B = added_string most_fragments aligned 1 size node in
    let root = leaf (bits_by aligned node names size A) Bits node in
    let extension = leaf (bits_by aligned node names size B) Bits node in
    let list = bits_in (bits c.args.source.now) c.args.joined.now in
    let forbidden = c.are_permitted.ensures.forbidden c.if-not-are_permitted.true in
    let T = bit_string most_fragments aligned node size true names in
    let e : Parts → Misfit = λ rest. record { node = node; left = length (Bits list ∷ rest); kind = NoEncoding } in
    let first : (at : ℕ) (rest : Parts) → (T at).misfit (Bits list ∷ rest) (e rest) =
    elim (root_or_added size count c.is_of_root-is_root.result c.is_of_root-is_root.ensures.of_root c.is_of_root-is_root.ensures.added) [
      | inl is ↦
          root_misfit node (AreAddedBits size) root extension (Bits list) e
          (λ q.
          let f : q.0 ≡ count = omega (arith, q.1, c.requires.all) in
          sizes_apart size count (subst (λ (k : ℕ). IsAddedSize size k) f q.2) is)
          (leaf_none (bits_by aligned node names size A) Bits node (Bits list) list refl
          (λ at p. named_none aligned node size A list names at forbidden p))
      | inr is ↦
          added_misfit node (AreAddedBits size) root extension (Bits list) e (count, omega (arith, c.requires.all), is)
          (leaf_none (bits_by aligned node names size B) Bits node (Bits list) list refl
          (λ at p. named_none aligned node size B list names at forbidden p))
    ] in
    rejected aligned T (Bits list) c.args.octets.now c.args.state.now c.reject.new.state c.reject.result node NoEncoding
    c.reject.ensures.result c.reject.ensures.at c.reject.ensures.next c.reject.ensures.node c.reject.ensures.reason first

pub put_joined_of-state-requires-clause-all : goal.put_joined_of-state-requires-clause-all
put_joined_of-state-requires-clause-all c = omega (arith, ap (λ (u : ℕ). u * c.args.count) c.requires.unit, c.requires.all)

pub put_added_joined-state-requires-clause-all : goal.put_added_joined-state-requires-clause-all
put_added_joined-state-requires-clause-all c = omega (arith, ap (λ (u : ℕ). u * c.args.count) c.requires.unit, c.requires.all)

pub returns-then-is_root : goal.returns-then-is_root
returns-then-is_root c =
    let aligned = c.args.is_aligned in
    let node = c.args.node in
    let size = c.args.size in
    let names = c.args.has_names in
    let A = string_of most_fragments aligned 1 size node in
    let B = added_string most_fragments aligned 1 size node in
    let list = bits_in (bits c.args.source.now) c.args.joined.now in
    let was = c.args.octets.now in
    let mid = c.put_bit-root.new.octets in
    let now = c.put_joined_of-state.new.octets in
    let at = c.put_bit-root.result in
    let new = c.put_joined_of-state.result in
    record {
      written = bit_written node (AreAddedBits size) (leaf (bits_by aligned node names size A) Bits node)
          (leaf (bits_by aligned node names size B) Bits node) (Bits list) aligned false was mid now c.args.state.now.at at new
          (c.put_bit-root.ensures aligned node)
          (leaf_written (bits_by aligned node names size A) Bits node aligned list (Bits list) mid now at new refl
          (named_written aligned node size A list names mid now at new (c.are_permitted.ensures.permitted c.if-not-are_permitted.false)
          (all_units (λ u. string_of most_fragments aligned u size node) aligned list c.args.joined.now.unit 1 c.args.count mid now at new c.requires.unit
          (omega (arith, c.requires.all)) (c.put_joined_of-state.ensures node))));
      next = refl;
    }

pub returns : goal.returns
returns c =
    let aligned = c.args.is_aligned in
    let node = c.args.node in
    let size = c.args.size in
    let names = c.args.has_names in
    let A = string_of most_fragments aligned 1 size node in
    let B = added_string most_fragments aligned 1 size node in
    let list = bits_in (bits c.args.source.now) c.args.joined.now in
    let was = c.args.octets.now in
    let mid = c.put_bit-added.new.octets in
    let now = c.put_added_joined-state.new.octets in
    let at = c.put_bit-added.result in
    let new = c.put_added_joined-state.result in
    record {
      written = bit_written node (AreAddedBits size) (leaf (bits_by aligned node names size A) Bits node)
          (leaf (bits_by aligned node names size B) Bits node) (Bits list) aligned true was mid now c.args.state.now.at at new
          (c.put_bit-added.ensures aligned node)
          (leaf_written (bits_by aligned node names size B) Bits node aligned list (Bits list) mid now at new refl
          (named_written aligned node size B list names mid now at new (c.are_permitted.ensures.permitted c.if-not-are_permitted.false)
          (all_units (λ u. added_string most_fragments aligned u size node) aligned list c.args.joined.now.unit 1 c.args.count mid now at new c.requires.unit
          (omega (arith, c.requires.all)) (c.put_added_joined-state.ensures size node (c.is_of_root-is_root.ensures.added c.if-is_root.false)))));
      next = refl;
    }
