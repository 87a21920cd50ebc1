use Rattle.std.proofs.Common.{[], ◌∷◌, Bool, sym, subst, rules}
use Rattle.std.specs.Int.{w128}
use Rattle.std.proofs.lemmas.Int.{to_z-of_z}
use Rattle.asn1_bits.specs.Bits.{bits}
use Rattle.asn1_schema.specs.Encodings.{permitted}
use Rattle.asn1_schema.specs.Pieces.{Integer}
use Rattle.asn1_schema.specs.PiecesOfParts.{piece_of}
use Rattle.asn1_schema.specs.TypeEncodings.{leaf, by_bit}
use Rattle.asn1_x691.specs.declared.fault.FaultKind.TheVariants.{InRoot}
use Rattle.asn1_x691.specs.Fields.{unconstrained}
use Rattle.asn1_x691.specs.Leaves.{IsBetween, IsOutside, integer_between}
use Rattle.asn1_x691_fields.specs.Outcomes.{IsRead}
use Rattle.asn1_x691_fields.proofs.extensible_integers.next_between_by_bit.Goals as goal
use mir.Val.{SFits}

pub returns-then-is_added-clause-read : goal.returns-then-is_added-clause-read
returns-then-is_added-clause-read c ranges =
    let list = bits c.args.octets.now in
    let aligned = c.args.is_aligned in
    let node = c.args.node in
    let least = c.args.bounds.least in
    let range = c.args.bounds.range in
    let new = c.next_outside.new.state in
    let fits : SFits w128 least = search rules in
    let taken = subst (λ z. IsRead (λ at. (leaf (permitted (IsOutside z range) (IsBetween z range) InRoot node (unconstrained aligned node))
    Integer node at).encoding) (λ p. piece_of ranges list p ∷ []) list c.args.state.now new c.next_outside.result)
    (to_z-of_z w128 least fits) (c.next_outside.ensures.read ranges) in
    subst (λ (b : Bool). IsRead (λ at. by_bit (integer_between aligned node least range at)
    (leaf (permitted (IsOutside least range) (IsBetween least range) InRoot node (unconstrained aligned node)) Integer node at) b)
    (λ p. piece_of ranges list p ∷ []) list c.args.state.now new c.next_outside.result) (sym c.if-is_added.true) taken

pub returns-clause-read : goal.returns-clause-read
returns-clause-read c ranges = rw c.if-is_added.false (c.next_integer_between.ensures.read ranges)
