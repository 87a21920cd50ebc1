use Rattle.std.proofs.Common.{inl, refl, arith}
use Rattle.asn1_bits.specs.Bits.{bits}
use Rattle.asn1_bits.specs.Laws.DigitLaws.{length-bits}
use Rattle.asn1_schema.specs.Pieces.{Octets}
use Rattle.asn1_schema.specs.PiecesOfParts.{bits_of}
use Rattle.asn1_schema.specs.Encodings.{permitted}
use Rattle.asn1_x691.specs.declared.fault.FaultKind.TheVariants.{Contents}
use Rattle.asn1_x691.specs.Contents.{IsObjectIdentifier}
use Rattle.asn1_x691.specs.Fragments.{octets}
use Rattle.asn1_x691_fields.specs.Outcomes.{rest, position, fault_of}
use Rattle.asn1_x691_fields.specs.Steps.{fault_at}
use Rattle.asn1_x691_fields.specs.ContentSteps.{object_identifier, relative_identifier}
use Rattle.asn1_x691_fields.specs.LeafSteps.{leaf_starts, permitted_starts, permitted_fault}
use Rattle.asn1_x691_fields.proofs.contents.next_object_identifier.Goals as goal

pub are_subidentifiers-requires-clause-inside : goal.are_subidentifiers-requires-clause-inside
are_subidentifiers-requires-clause-inside c =
    let s = c.in_ok-contents.ensures in
    omega (arith, length-bits c.args.octets.now, s.index, s.onward.ends, s.onward.inside)

pub returns-then-not-are_subidentifiers-clause-read : goal.returns-then-not-are_subidentifiers-clause-read
returns-then-not-are_subidentifiers-clause-read c ranges =
    let list = bits c.args.octets.now in
    let node = c.args.node in
    let mid = c.next_octets.new.state in
    let s = c.in_ok-contents.ensures in
    inl (permitted_fault IsObjectIdentifier (λ l. ¬ (IsObjectIdentifier l)) Contents node (octets 0 c.args.is_aligned node) list
    c.args.state.now mid c.requires.within s.onward (bits_of list c.in_ok-contents.contents) s.read (fault_of c.fail.new.state)
    (λ o. c.are_subidentifiers.ensures.no c.if-not-are_subidentifiers.true (relative_identifier (bits_of list c.in_ok-contents.contents) o))
    (fault_at list mid c.fail.new.state node Contents s.onward.inside
    c.fail.ensures.at c.fail.ensures.end c.fail.ensures.node c.fail.ensures.kind))

pub returns-clause-read : goal.returns-clause-read
returns-clause-read c ranges =
    let list = bits c.args.octets.now in
    let node = c.args.node in
    let A = octets 0 c.args.is_aligned node in
    let mid = c.next_octets.new.state in
    let s = c.in_ok-contents.ensures in
    let contents = bits_of list c.in_ok-contents.contents in
    leaf_starts (permitted IsObjectIdentifier (λ l. ¬ (IsObjectIdentifier l)) Contents node A) Octets node (position c.args.state.now)
    (rest list c.args.state.now) (rest list mid) contents (Octets contents) refl
    (permitted_starts IsObjectIdentifier (λ l. ¬ (IsObjectIdentifier l)) Contents node A list c.args.state.now mid c.requires.within
    s.onward contents s.read (object_identifier contents (c.are_subidentifiers.ensures.yes c.if-not-are_subidentifiers.false)))
