use Rattle.asn1_bits.specs.Bits.{bits}
use Rattle.asn1_x690.specs.declared.fault.FaultKind.TheVariants.{Extra}
use Rattle.asn1_x690_decode.specs.Tables.{types}
use Rattle.asn1_x690_decode.proofs.StateSteps.{fault_here}
use Rattle.asn1_x690_decode.proofs.ElementSteps.{element_found, element_fails}
use Rattle.asn1_x690_decode.proofs.MessageSteps.{within, complete, fault_of_message, extra_of_message}
use Rattle.asn1_x690_decode.proofs.message.decode.Goals as goal

pub decode_element-requires-clause-within : goal.decode_element-requires-clause-within
decode_element-requires-clause-within c =
    let b = c.begin-state in
    within c.args.context.now c.args.depth c.args.node b.result b.ensures.at b.ensures.end

pub returns-then-state-clause-accepted : goal.returns-then-state-clause-accepted
returns-then-state-clause-accepted c =
    let a = c.args in
    let context = a.context.now in
    let b = c.begin-state in
    let d = c.decode_element in
    complete context a.depth a.node b.result b.ensures.at b.ensures.end d.new.state a.parts.now d.new.parts d.ensures.moved
    (element_found context a.node (types context a.depth a.node) b.result d.new.state a.parts.now d.new.parts d.result
    c.if-decode_element.true d.ensures.did) b.ensures.count c.if-state.true

pub returns-else-state-clause-fault : goal.returns-else-state-clause-fault
returns-else-state-clause-fault c =
    let a = c.args in
    let context = a.context.now in
    let b = c.begin-state in
    let d = c.decode_element in
    extra_of_message context a.depth a.node b.result b.ensures.at b.ensures.end d.new.state a.parts.now d.new.parts d.ensures.moved
    (element_found context a.node (types context a.depth a.node) b.result d.new.state a.parts.now d.new.parts d.result
    c.if-decode_element.true d.ensures.did) c.fail.new.state c.if-state.false c.fail.ensures.at c.fail.ensures.end
    (fault_here (bits context.octets.now) d.new.state c.fail.new.state a.node Extra d.ensures.moved.inside c.fail.ensures.at c.fail.ensures.end
    c.fail.ensures.node c.fail.ensures.kind)

pub returns-else-decode_element-clause-fault : goal.returns-else-decode_element-clause-fault
returns-else-decode_element-clause-fault c =
    let a = c.args in
    let context = a.context.now in
    let b = c.begin-state in
    let d = c.decode_element in
    fault_of_message context a.depth a.node b.result b.ensures.at b.ensures.end d.new.state a.parts.now d.new.parts d.ensures.moved
    (element_fails context a.node (types context a.depth a.node) b.result d.new.state a.parts.now d.new.parts d.result
    c.if-decode_element.false d.ensures.did)
