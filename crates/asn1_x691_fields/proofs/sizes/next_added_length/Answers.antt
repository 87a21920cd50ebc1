use Rattle.asn1_bits.specs.Bits.{bits}
use Rattle.asn1_x691.specs.declared.fault.FaultKind.TheVariants.{InRoot}
use Rattle.asn1_x691.specs.Fields.{length_of}
use Rattle.asn1_x691.specs.Strings.{IsOfRoot, IsAddedSize}
use Rattle.asn1_x691_fields.specs.Outcomes.{fault_of}
use Rattle.asn1_x691_fields.specs.Steps.{fault_at}
use Rattle.asn1_x691_fields.specs.LeafSteps.{permitted_starts, permitted_fault}
use Rattle.asn1_x691_fields.proofs.sizes.next_added_length.Goals as goal

pub returns-then-is_of_root-clause-read : goal.returns-then-is_of_root-clause-read
returns-then-is_of_root-clause-read c =
    let list = bits c.args.octets.now in
    let node = c.args.node in
    let mid = c.next_length.new.state in
    permitted_fault (IsAddedSize c.args.size) (IsOfRoot c.args.size) InRoot node (length_of c.args.is_aligned node) list c.args.state.now mid
    c.requires.within c.in_ok-count.ensures.onward c.in_ok-count.count c.in_ok-count.ensures.read (fault_of c.fail.new.state)
    (c.is_of_root.ensures.of_root c.if-is_of_root.true)
    (fault_at list mid c.fail.new.state node InRoot c.in_ok-count.ensures.onward.inside
    c.fail.ensures.at c.fail.ensures.end c.fail.ensures.node c.fail.ensures.kind)

pub returns-clause-read : goal.returns-clause-read
returns-clause-read c =
    permitted_starts (IsAddedSize c.args.size) (IsOfRoot c.args.size) InRoot c.args.node (length_of c.args.is_aligned c.args.node)
    (bits c.args.octets.now) c.args.state.now c.next_length.new.state c.requires.within c.in_ok-count.ensures.onward
    c.in_ok-count.count c.in_ok-count.ensures.read (c.is_of_root.ensures.added c.if-is_of_root.false)
