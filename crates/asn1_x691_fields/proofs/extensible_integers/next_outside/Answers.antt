use Rattle.std.proofs.Common.{inl, refl, subst, arith}
use Rattle.std.specs.Int.{w128}
use Rattle.std.proofs.lemmas.Int.{to_z-of_z}
use Rattle.asn1_bits.specs.Bits.{bits}
use Rattle.asn1_bits.specs.Laws.DigitLaws.{length-bits}
use Rattle.asn1_schema.specs.Encodings.{permitted}
use Rattle.asn1_schema.specs.Pieces.{Integer}
use Rattle.asn1_schema.specs.PiecesOfParts.{bits_of, signed_number}
use Rattle.asn1_x691.specs.declared.fault.FaultKind.TheVariants.{InRoot}
use Rattle.asn1_x691.specs.Fields.{unconstrained}
use Rattle.asn1_x691.specs.Leaves.{IsBetween, IsOutside}
use Rattle.asn1_x691_fields.specs.Outcomes.{rest, position, fault_of}
use Rattle.asn1_x691_fields.specs.Steps.{fault_at}
use Rattle.asn1_x691_fields.specs.LeafSteps.{leaf_starts, permitted_starts, permitted_fault}
use Rattle.asn1_x691_fields.proofs.extensible_integers.next_outside.Goals as goal

pub is_between-requires-clause-inside : goal.is_between-requires-clause-inside
is_between-requires-clause-inside c =
    omega (
      arith,
      length-bits c.args.octets.now,
      c.in_ok-span.ensures.octets.last,
      c.in_ok-span.ensures.onward.ends,
      c.in_ok-span.ensures.onward.inside,
    )

pub returns-then-is_between-clause-read : goal.returns-then-is_between-clause-read
returns-then-is_between-clause-read c ranges =
    let list = bits c.args.octets.now in
    let node = c.args.node in
    let mid = c.next_unconstrained.new.state in
    let z = signed_number (bits_of list c.in_ok-span.span) in
    inl (permitted_fault (IsOutside c.args.least c.args.range) (IsBetween c.args.least c.args.range) InRoot node (unconstrained c.args.is_aligned node) list
    c.args.state.now mid c.requires.within c.in_ok-span.ensures.onward z
    c.in_ok-span.ensures.read (fault_of c.fail.new.state) (subst (λ b. IsBetween b c.args.range z) (to_z-of_z w128 c.args.least c.ranges.least)
    (c.is_between.ensures.between c.if-is_between.true))
    (fault_at list mid c.fail.new.state node InRoot c.in_ok-span.ensures.onward.inside
    c.fail.ensures.at c.fail.ensures.end c.fail.ensures.node c.fail.ensures.kind))

pub returns-clause-read : goal.returns-clause-read
returns-clause-read c ranges =
    let list = bits c.args.octets.now in
    let node = c.args.node in
    let A = unconstrained c.args.is_aligned node in
    let mid = c.next_unconstrained.new.state in
    let z = signed_number (bits_of list c.in_ok-span.span) in
    leaf_starts (permitted (IsOutside c.args.least c.args.range) (IsBetween c.args.least c.args.range) InRoot node A) Integer node (position c.args.state.now) (rest list c.args.state.now) (rest list mid)
    z (Integer z) refl
    (permitted_starts (IsOutside c.args.least c.args.range) (IsBetween c.args.least c.args.range) InRoot node A list c.args.state.now mid c.requires.within c.in_ok-span.ensures.onward z
    c.in_ok-span.ensures.read (subst (λ b. IsOutside b c.args.range z) (to_z-of_z w128 c.args.least c.ranges.least)
    (c.is_between.ensures.outside c.if-is_between.false)))
