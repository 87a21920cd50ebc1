use Rattle.std.proofs.Common.{[], ◌∷◌, Bool, sym, subst}
use Rattle.asn1_bits.specs.Bits.{bits}
use Rattle.asn1_schema.specs.Encodings.{permitted}
use Rattle.asn1_schema.specs.Pieces.{Integer}
use Rattle.asn1_schema.specs.PiecesOfParts.{piece_of}
use Rattle.asn1_schema.specs.TypeEncodings.{leaf}
use Rattle.asn1_x691.specs.declared.fault.FaultKind.TheVariants.{InRoot}
use Rattle.asn1_x691.specs.Fields.{unconstrained}
use Rattle.asn1_x691.specs.Leaves.{IsAddedInteger, IsBetween, IsOutside, integer_between, integer_between_by}
use Rattle.asn1_x691_fields.specs.Outcomes.{IsRead}
use Rattle.asn1_x691_fields.specs.LeafSteps.{bit_taken}
use Rattle.asn1_x691_fields.proofs.extensible_integers.next_integer_between_by.Goals as goal

pub returns-clause-read : goal.returns-clause-read
returns-clause-read c ranges =
    let list = bits c.args.octets.now in
    let aligned = c.args.is_aligned in
    let node = c.args.node in
    let least = c.args.bounds.least in
    let range = c.args.bounds.range in
    let new = c.next_between_by_bit.new.state in
    let taken = bit_taken node (IsAddedInteger (IsOutside least range)) (integer_between aligned node least range)
    (leaf (permitted (IsOutside least range) (IsBetween least range) InRoot node (unconstrained aligned node)) Integer node) ranges list
    c.args.state.now c.next_bit.new.state new c.in_ok-is_added.is_added c.next_between_by_bit.result c.requires.within
    c.in_ok-is_added.ensures.onward c.in_ok-is_added.ensures.read (c.next_between_by_bit.ensures.read ranges) in
    subst (λ (b : Bool). IsRead (λ at. (integer_between_by aligned node b least range at).encoding) (λ p. piece_of ranges list p ∷ []) list
    c.args.state.now new c.next_between_by_bit.result) (sym c.if-not-is_extensible.false) taken

pub returns-then-not-is_extensible-clause-read : goal.returns-then-not-is_extensible-clause-read
returns-then-not-is_extensible-clause-read c ranges = rw c.if-not-is_extensible.true (c.next_integer_between.ensures.read ranges)
