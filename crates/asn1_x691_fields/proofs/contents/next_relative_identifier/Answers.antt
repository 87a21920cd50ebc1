use Rattle.std.proofs.Common.{inl, refl, arith}
use Rattle.asn1_bits.specs.Bits.{bits}
use Rattle.asn1_bits.specs.Laws.DigitLaws.{length-bits}
use Rattle.asn1_schema.specs.Pieces.{Octets}
use Rattle.asn1_schema.specs.PiecesOfParts.{bits_of}
use Rattle.asn1_schema.specs.Encodings.{permitted}
use Rattle.asn1_x691.specs.declared.fault.FaultKind.TheVariants.{Contents}
use Rattle.asn1_x691.specs.Contents.{IsRelativeIdentifier}
use Rattle.asn1_x691.specs.Fragments.{octets}
use Rattle.asn1_x691_fields.specs.Outcomes.{rest, position, fault_of}
use Rattle.asn1_x691_fields.specs.Steps.{fault_at}
use Rattle.asn1_x691_fields.specs.LeafSteps.{leaf_starts, permitted_starts, permitted_fault}
use Rattle.asn1_x691_fields.proofs.contents.next_relative_identifier.Goals as goal

pub are_subidentifiers-requires-clause-inside : goal.are_subidentifiers-requires-clause-inside
are_subidentifiers-requires-clause-inside c =
    let s = c.in_ok-span.ensures in
    omega (arith, length-bits c.args.octets.now, s.index, s.onward.ends, s.onward.inside)

pub returns-then-not-are_subidentifiers-clause-read : goal.returns-then-not-are_subidentifiers-clause-read
returns-then-not-are_subidentifiers-clause-read c ranges =
    let list = bits c.args.octets.now in
    let node = c.args.node in
    let mid = c.next_octets.new.state in
    let s = c.in_ok-span.ensures in
    inl (permitted_fault IsRelativeIdentifier (λ l. ¬ (IsRelativeIdentifier l)) Contents node (octets 0 c.args.is_aligned node) list
    c.args.state.now mid c.requires.within s.onward (bits_of list c.in_ok-span.span) s.read (fault_of c.fail.new.state)
    (c.are_subidentifiers.ensures.no c.if-not-are_subidentifiers.true)
    (fault_at list mid c.fail.new.state node Contents s.onward.inside
    c.fail.ensures.at c.fail.ensures.end c.fail.ensures.node c.fail.ensures.kind))

pub returns-clause-read : goal.returns-clause-read
returns-clause-read c ranges =
    let list = bits c.args.octets.now in
    let node = c.args.node in
    let A = octets 0 c.args.is_aligned node in
    let mid = c.next_octets.new.state in
    let s = c.in_ok-span.ensures in
    let contents = bits_of list c.in_ok-span.span in
    leaf_starts (permitted IsRelativeIdentifier (λ l. ¬ (IsRelativeIdentifier l)) Contents node A) Octets node (position c.args.state.now)
    (rest list c.args.state.now) (rest list mid) contents (Octets contents) refl
    (permitted_starts IsRelativeIdentifier (λ l. ¬ (IsRelativeIdentifier l)) Contents node A list c.args.state.now mid c.requires.within
    s.onward contents s.read (c.are_subidentifiers.ensures.yes c.if-not-are_subidentifiers.false))
