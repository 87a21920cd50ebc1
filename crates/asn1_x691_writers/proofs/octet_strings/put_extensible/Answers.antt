use Rattle.asn1_x691.specs.Fragments.{most_fragments}
use Rattle.std.proofs.Common.{◌≡◌, ℕ, ◌*◌, ◌/◌, ◌∷◌, true, false, length, refl, subst, arith}
use Rattle.asn1_bits.specs.Bits.{bits}
use Rattle.asn1_bits.specs.Laws.DigitLaws.{length-bits}
use Rattle.asn1_schema.specs.declared.misfit.MisfitKind.TheVariants.{NoEncoding}
use Rattle.asn1_schema.specs.Pieces.{Octets}
use Rattle.asn1_schema.specs.PiecesOfParts.{bits_at}
use Rattle.asn1_schema.specs.TypeEncodings.{leaf}
use Rattle.asn1_x691.specs.Strings.{string_of, added_string}
use Rattle.asn1_x691.specs.Leaves.{AreAddedOctets, octet_string}
use Rattle.asn1_x691_fields.specs.Steps.{front_length}
use Rattle.asn1_x691_writers.specs.Written.{IsWritten}
use Rattle.asn1_x691_writers.specs.LeafSteps.{leaf_written, leaf_none, bit_written, root_misfit}
use Rattle.asn1_x691_writers.specs.PutSteps.{rejected}
use Rattle.asn1_x691_writers.specs.SizeSteps.{whole_units}
use Rattle.asn1_x691_writers.proofs.octet_strings.put_extensible.Goals as goal

pub returns-then-span-gt0 : goal.returns-then-span-gt0
returns-then-span-gt0 c =
    let aligned = c.args.is_aligned in
    let node = c.args.node in
    let size = c.args.size in
    let count = c.args.span.count in
    let list = bits_at (bits c.args.source.now) c.args.span.at count in
    let n = front_length (bits c.args.source.now) c.args.span.at count (omega (arith, c.requires.inside, length-bits c.args.source.now)) in
    rejected aligned (octet_string most_fragments aligned node size true) (Octets list) c.args.octets.now c.args.state.now c.reject.new.state
    c.reject.result node NoEncoding c.reject.ensures.result c.reject.ensures.at c.reject.ensures.next c.reject.ensures.node
    c.reject.ensures.reason
    (root_misfit node (AreAddedOctets size) (leaf (string_of most_fragments aligned 8 size node) Octets node)
    (leaf (added_string most_fragments aligned 8 size node) Octets node) (Octets list)
    (λ rest. record { node = node; left = length (Octets list ∷ rest); kind = NoEncoding })
    (λ q. omega (arith, q.1, n, c.if-span-gt0.true))
    (leaf_none (string_of most_fragments aligned 8 size node) Octets node (Octets list) list refl
    (λ at p. let e = whole_units aligned 8 node size at list p.list p.encoded in omega (arith, e.1, n, c.if-span-gt0.true))))

pub returns-then-is_of_root : goal.returns-then-is_of_root
returns-then-is_of_root c =
    let aligned = c.args.is_aligned in
    let node = c.args.node in
    let size = c.args.size in
    let count = c.args.span.count in
    let source = bits c.args.source.now in
    let list = bits_at source c.args.span.at count in
    let was = c.args.octets.now in
    let mid = c.put_bit-root.new.octets in
    let now = c.put_string_of-state.new.octets in
    let at = c.put_bit-root.result in
    let new = c.put_string_of-state.result in
    let e : 8 * (count / 8) ≡ count = omega (arith, c.if-span-gt0.false) in
    record {
      written = bit_written node (AreAddedOctets size) (leaf (string_of most_fragments aligned 8 size node) Octets node)
          (leaf (added_string most_fragments aligned 8 size node) Octets node) (Octets list) aligned false was mid now c.args.state.now.at at new
          (c.put_bit-root.ensures aligned node)
          (leaf_written (string_of most_fragments aligned 8 size node) Octets node aligned list (Octets list) mid now at new refl
          (subst (λ (k : ℕ). IsWritten aligned (string_of most_fragments aligned 8 size node) (bits_at source c.args.span.at k) mid at now new) e
          (c.put_string_of-state.ensures node)));
      next = refl;
    }

pub returns : goal.returns
returns c =
    let aligned = c.args.is_aligned in
    let node = c.args.node in
    let size = c.args.size in
    let count = c.args.span.count in
    let source = bits c.args.source.now in
    let list = bits_at source c.args.span.at count in
    let was = c.args.octets.now in
    let mid = c.put_bit-added.new.octets in
    let now = c.put_added_string-state.new.octets in
    let at = c.put_bit-added.result in
    let new = c.put_added_string-state.result in
    let e : 8 * (count / 8) ≡ count = omega (arith, c.if-span-gt0.false) in
    record {
      written = bit_written node (AreAddedOctets size) (leaf (string_of most_fragments aligned 8 size node) Octets node)
          (leaf (added_string most_fragments aligned 8 size node) Octets node) (Octets list) aligned true was mid now c.args.state.now.at at new
          (c.put_bit-added.ensures aligned node)
          (leaf_written (added_string most_fragments aligned 8 size node) Octets node aligned list (Octets list) mid now at new refl
          (subst (λ (k : ℕ). IsWritten aligned (added_string most_fragments aligned 8 size node) (bits_at source c.args.span.at k) mid at now new) e
          (c.put_added_string-state.ensures size node (c.is_of_root.ensures.added c.if-is_of_root.false))));
      next = refl;
    }
