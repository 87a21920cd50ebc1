use Rattle.std.proofs.Common.{[], ◌∷◌, Bool, false, sym, subst}
use Rattle.asn1_bits.specs.Bits.{bits}
use Rattle.asn1_schema.specs.Pieces.{Bits}
use Rattle.asn1_schema.specs.PiecesOfParts.{piece_of}
use Rattle.asn1_schema.specs.TypeEncodings.{leaf}
use Rattle.asn1_x691.specs.Strings.{string_of, added_string}
use Rattle.asn1_x691.specs.Leaves.{AreAddedBits, bit_string}
use Rattle.asn1_x691.specs.Fragments.{most_fragments}
use Rattle.asn1_x691_fields.specs.Outcomes.{IsRead}
use Rattle.asn1_x691_fields.specs.LeafSteps.{bit_taken}
use Rattle.asn1_x691_fields.proofs.bit_strings.next_plain_bit_string.Goals as goal

pub returns-clause-read : goal.returns-clause-read
returns-clause-read c ranges =
    let list = bits c.args.octets.now in
    let node = c.args.node in
    let size = c.args.size in
    let new = c.next_bits_by_bit.new.state in
    let taken = bit_taken node (AreAddedBits size) (leaf (string_of most_fragments c.args.is_aligned 1 size node) Bits node)
    (leaf (added_string most_fragments c.args.is_aligned 1 size node) Bits node) ranges list c.args.state.now c.next_bit.new.state new
    c.in_ok-is_added.is_added c.next_bits_by_bit.result c.requires.within c.in_ok-is_added.ensures.onward
    c.in_ok-is_added.ensures.read (c.next_bits_by_bit.ensures.read ranges) in
    subst (λ (b : Bool). IsRead (λ at. (bit_string most_fragments c.args.is_aligned node size b false at).encoding) (λ p. piece_of ranges list p ∷ []) list
    c.args.state.now new c.next_bits_by_bit.result) (sym c.if-not-is_extensible.false) taken

pub returns-then-not-is_extensible-clause-read : goal.returns-then-not-is_extensible-clause-read
returns-then-not-is_extensible-clause-read c ranges = rw c.if-not-is_extensible.true (c.next_bits_of_root.ensures.read ranges)
