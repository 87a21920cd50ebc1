use Rattle.std.proofs.Common.{inr}
use Rattle.asn1_bits.specs.Bits.{bits}
use Rattle.asn1_schema.specs.PiecesOfParts.{joined}
use Rattle.asn1_x691.specs.declared.fault.FaultKind.TheVariants.{InRoot}
use Rattle.asn1_x691.specs.Fragments.{most_fragments, string}
use Rattle.asn1_x691.specs.Strings.{IsOfRoot, IsAddedSize, where_size}
use Rattle.asn1_x691_fields.specs.Outcomes.{fault_of}
use Rattle.asn1_x691_fields.specs.Steps.{turn_fault, fault_at}
use Rattle.asn1_x691_fields.proofs.long_strings.next_other_units.Goals as goal

pub returns-then-is_of_root-clause-read : goal.returns-then-is_of_root-clause-read
returns-then-is_of_root-clause-read c =
    let list = bits c.args.octets.now in
    let node = c.args.node in
    let mid = c.next_in_fragments.new.state in
    turn_fault list c.args.state.now mid c.requires.within c.in_ok-count.ensures.onward (string most_fragments c.args.is_aligned c.args.unit node)
    (λ v bits. bits) (λ v. where_size (IsAddedSize c.args.size) (IsOfRoot c.args.size) InRoot node v)
    (c.in_ok-count.count, joined c.args.unit list c.in_ok-count.fragments) c.in_ok-count.ensures.read (fault_of c.fail.new.state)
    (inr (
      c.is_of_root.ensures.of_root c.if-is_of_root.true,
      fault_at list mid c.fail.new.state node InRoot c.in_ok-count.ensures.onward.inside
          c.fail.ensures.at c.fail.ensures.end c.fail.ensures.node c.fail.ensures.kind,
    ))
