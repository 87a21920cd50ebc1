use Rattle.std.proofs.Common.{inr}
use Rattle.asn1_bits.specs.Bits.{bits}
use Rattle.asn1_schema.specs.Encodings.{anywhere}
use Rattle.asn1_x691.specs.declared.fault.FaultKind.TheVariants.{NotMinimal}
use Rattle.asn1_x691.specs.Fields.{length_of, above_64}
use Rattle.asn1_x691_fields.specs.Outcomes.{fault_of}
use Rattle.asn1_x691_fields.specs.Steps.{turn_fault, fault_at}
use Rattle.asn1_x691_fields.proofs.lengths.next_large_length.Goals as goal

pub returns-then-count-le64-clause-read : goal.returns-then-count-le64-clause-read
returns-then-count-le64-clause-read c =
    let list = bits c.args.octets.now in
    let node = c.args.node in
    let mid = c.next_length.new.state in
    turn_fault list c.args.state.now mid c.requires.within c.in_ok-count.ensures.onward (length_of c.args.is_aligned node) (λ n m. m)
    (λ n. anywhere (above_64 node n)) c.in_ok-count.count c.in_ok-count.ensures.read (fault_of c.fail.new.state)
    (inr (
      c.if-count-le64.true,
      fault_at list mid c.fail.new.state node NotMinimal c.in_ok-count.ensures.onward.inside
          c.fail.ensures.at c.fail.ensures.end c.fail.ensures.node c.fail.ensures.kind,
    ))
