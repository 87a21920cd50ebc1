use Rattle.std.proofs.Common.{[], ◌∷◌, subst, rules}
use Rattle.std.specs.Int.{w128}
use Rattle.std.specs.Prelude.{◌<ℤ◌, ◌≤ℤ◌}
use Rattle.std.proofs.lemmas.Int.{to_z-of_z}
use Rattle.asn1_bits.specs.Bits.{bits}
use Rattle.asn1_schema.specs.Encodings.{permitted}
use Rattle.asn1_schema.specs.Pieces.{Integer}
use Rattle.asn1_schema.specs.PiecesOfParts.{piece_of}
use Rattle.asn1_schema.specs.TypeEncodings.{leaf}
use Rattle.asn1_x691.specs.declared.fault.FaultKind.TheVariants.{InRoot}
use Rattle.asn1_x691.specs.Fields.{unconstrained}
use Rattle.asn1_x691_fields.specs.Outcomes.{IsRead}
use Rattle.asn1_x691_fields.proofs.extensible_integers.next_at_least_by_bit.Goals as goal
use mir.Val.{SFits}

pub returns-then-is_added-clause-read : goal.returns-then-is_added-clause-read
returns-then-is_added-clause-read c ranges =
    let list = bits c.args.octets.now in
    let aligned = c.args.is_aligned in
    let node = c.args.node in
    let least = c.args.bound.least in
    let fits : SFits w128 least = search rules in
    let taken = subst (λ z. IsRead (λ at. (leaf (permitted (λ n. n <ℤ z) (λ n. z ≤ℤ n) InRoot node (unconstrained aligned node))
    Integer node at).encoding) (λ p. piece_of ranges list p ∷ []) list c.args.state.now c.next_below.new.state c.next_below.result)
    (to_z-of_z w128 least fits) (c.next_below.ensures.read ranges) in
    rw c.if-is_added.true taken

pub returns-clause-read : goal.returns-clause-read
returns-clause-read c ranges =
    let list = bits c.args.octets.now in
    let aligned = c.args.is_aligned in
    let node = c.args.node in
    let least = c.args.bound.least in
    rw c.if-is_added.false (c.next_integer_at_least.ensures.read ranges)
