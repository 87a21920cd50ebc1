use Rattle.std.proofs.Common.{[], ◌∷◌, Bool, sym, subst}
use Rattle.asn1_bits.specs.Bits.{bits}
use Rattle.asn1_schema.specs.PiecesOfParts.{piece_of}
use Rattle.asn1_schema.specs.TypeEncodings.{leaf}
use Rattle.asn1_x691.specs.Fields.{small_number}
use Rattle.asn1_x691.specs.Leaves.{IsAddedValue, enumerated, enumerated_by, value_of_addition}
use Rattle.asn1_x691_fields.specs.Outcomes.{IsRead}
use Rattle.asn1_x691_fields.specs.LeafSteps.{bit_taken}
use Rattle.asn1_x691_fields.proofs.enumerations.next_enumerated.Goals as goal

pub returns-clause-read : goal.returns-clause-read
returns-clause-read c ranges =
    let list = bits c.args.octets.now in
    let node = c.args.node in
    let last = c.args.last in
    let new = c.next_value_by_bit.new.state in
    let taken = bit_taken node (IsAddedValue last) (enumerated c.args.is_aligned node last)
    (leaf (small_number c.args.is_aligned node) (value_of_addition last c.args.additions) node) ranges list c.args.state.now
    c.next_bit.new.state new c.in_ok-is_added.is_added c.next_value_by_bit.result c.requires.within
    c.in_ok-is_added.ensures.onward c.in_ok-is_added.ensures.read (c.next_value_by_bit.ensures.read ranges) in
    subst (λ (b : Bool). IsRead (λ at. (enumerated_by c.args.is_aligned node b last c.args.additions at).encoding)
    (λ p. piece_of ranges list p ∷ []) list c.args.state.now new c.next_value_by_bit.result)
    (sym c.if-not-is_extensible.false) taken

pub returns-then-not-is_extensible-clause-read : goal.returns-then-not-is_extensible-clause-read
returns-then-not-is_extensible-clause-read c ranges = rw c.if-not-is_extensible.true (c.next_value_of_root.ensures.read ranges)
