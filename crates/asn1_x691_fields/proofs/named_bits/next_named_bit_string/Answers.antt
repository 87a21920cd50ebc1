use Rattle.std.proofs.Common.{true, [], ◌∷◌, Bool, sym, subst}
use Rattle.asn1_bits.specs.Bits.{bits}
use Rattle.asn1_schema.specs.Pieces.{Bits}
use Rattle.asn1_schema.specs.PiecesOfParts.{piece_of}
use Rattle.asn1_schema.specs.TypeEncodings.{leaf}
use Rattle.asn1_x691.specs.Strings.{string_of, added_string}
use Rattle.asn1_x691.specs.Leaves.{AreAddedBits, bits_by, bit_string}
use Rattle.asn1_x691_fields.specs.Outcomes.{IsRead}
use Rattle.asn1_x691_fields.specs.LeafSteps.{bit_taken}
use Rattle.asn1_x691_fields.proofs.named_bits.next_named_bit_string.Goals as goal

pub returns-clause-read : goal.returns-clause-read
returns-clause-read c ranges =
    let list = bits c.args.octets.now in
    let aligned = c.args.is_aligned in
    let node = c.args.node in
    let size = c.args.size in
    let new = c.next_named_by_bit.new.state in
    let taken = bit_taken node (AreAddedBits size) (leaf (bits_by aligned node true size (string_of 0 aligned 1 size node)) Bits node)
    (leaf (bits_by aligned node true size (added_string 0 aligned 1 size node)) Bits node) ranges list c.args.state.now c.next_bit.new.state new
    c.in_ok-is_added.is_added c.next_named_by_bit.result c.requires.within c.in_ok-is_added.ensures.onward
    c.in_ok-is_added.ensures.read (c.next_named_by_bit.ensures.read ranges) in
    subst (λ (b : Bool). IsRead (λ at. (bit_string 0 aligned node size b true at).encoding) (λ p. piece_of ranges list p ∷ []) list
    c.args.state.now new c.next_named_by_bit.result) (sym c.if-not-is_extensible.false) taken

pub returns-then-not-is_extensible-clause-read : goal.returns-then-not-is_extensible-clause-read
returns-then-not-is_extensible-clause-read c ranges = rw c.if-not-is_extensible.true (c.next_named_of_root.ensures.read ranges)
