use Rattle.std.proofs.Common.{true, inl, refl}
use Rattle.asn1_bits.specs.Bits.{bits}
use Rattle.asn1_schema.specs.Pieces.{Bits}
use Rattle.asn1_schema.specs.PiecesOfParts.{bits_of}
use Rattle.asn1_x691.specs.declared.fault.FaultKind.TheVariants.{NotTrimmed}
use Rattle.asn1_x691.specs.Strings.{string_of}
use Rattle.asn1_x691.specs.Leaves.{bits_by}
use Rattle.asn1_x691_fields.specs.Outcomes.{rest, position, fault_of}
use Rattle.asn1_x691_fields.specs.Steps.{fault_at}
use Rattle.asn1_x691_fields.specs.LeafSteps.{leaf_starts}
use Rattle.asn1_x691_fields.specs.TrimmedSteps.{named_starts, named_fault}
use Rattle.asn1_x691_fields.proofs.named_bits.next_named_of_root.Goals as goal

pub returns-then-not-are_trimmed-clause-read : goal.returns-then-not-are_trimmed-clause-read
returns-then-not-are_trimmed-clause-read c ranges =
    let list = bits c.args.octets.now in
    let node = c.args.node in
    let size = c.args.size in
    let mid = c.next_string_of.new.state in
    inl (named_fault c.args.is_aligned node size (string_of 0 c.args.is_aligned 1 size node) list c.args.state.now mid c.requires.within
    c.in_ok-span.ensures.onward (bits_of list c.in_ok-span.span) c.in_ok-span.ensures.read true (fault_of c.fail.new.state)
    refl (c.are_trimmed.ensures.no c.if-not-are_trimmed.true)
    (fault_at list mid c.fail.new.state node NotTrimmed c.in_ok-span.ensures.onward.inside
    c.fail.ensures.at c.fail.ensures.end c.fail.ensures.node c.fail.ensures.kind))

pub returns-clause-read : goal.returns-clause-read
returns-clause-read c ranges =
    let list = bits c.args.octets.now in
    let node = c.args.node in
    let size = c.args.size in
    let A = string_of 0 c.args.is_aligned 1 size node in
    let mid = c.next_string_of.new.state in
    leaf_starts (bits_by c.args.is_aligned node true size A) Bits node (position c.args.state.now)
    (rest list c.args.state.now) (rest list mid) (bits_of list c.in_ok-span.span) (Bits (bits_of list c.in_ok-span.span)) refl
    (named_starts c.args.is_aligned node size A list c.args.state.now mid c.requires.within
    c.in_ok-span.ensures.onward (bits_of list c.in_ok-span.span) c.in_ok-span.ensures.read true
    (λ names. c.are_trimmed.ensures.yes c.if-not-are_trimmed.false))
