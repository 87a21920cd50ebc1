use Rattle.asn1_x690_decode.specs.Tables.{types}
use Rattle.asn1_x690_decode.proofs.ElementSteps.{element_found, element_fails}
use Rattle.asn1_x690_decode.proofs.MessageSteps.{within, prefix, fault_of_prefix}
use Rattle.asn1_x690_decode.proofs.message.decode_prefix.Goals as goal

pub decode_element-requires-clause-within : goal.decode_element-requires-clause-within
decode_element-requires-clause-within c =
    let b = c.begin-state in
    within c.args.context.now c.args.depth c.args.node b.result b.ensures.at b.ensures.end

pub returns-then-decode_element-clause-accepted : goal.returns-then-decode_element-clause-accepted
returns-then-decode_element-clause-accepted c =
    let a = c.args in
    let context = a.context.now in
    let b = c.begin-state in
    let d = c.decode_element in
    prefix context a.depth a.node b.result b.ensures.at b.ensures.end d.new.state a.parts.now d.new.parts d.ensures.moved
    (element_found context a.node (types context a.depth a.node) b.result d.new.state a.parts.now d.new.parts d.result
    c.if-decode_element.true d.ensures.did) b.ensures.count

pub returns-clause-fault : goal.returns-clause-fault
returns-clause-fault c =
    let a = c.args in
    let context = a.context.now in
    let b = c.begin-state in
    let d = c.decode_element in
    fault_of_prefix context a.depth a.node b.result b.ensures.at b.ensures.end d.new.state a.parts.now d.new.parts d.ensures.moved
    (element_fails context a.node (types context a.depth a.node) b.result d.new.state a.parts.now d.new.parts d.result
    c.if-decode_element.false d.ensures.did)
