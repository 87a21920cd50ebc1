use Rattle.asn1_x691_decode.specs.Decoding.{types}
use Rattle.asn1_x691_decode.proofs.Steps.{by_true, by_false}
use Rattle.asn1_x691_decode.proofs.MessageSteps.{begins_within, prefix_message, prefix_fault}
use Rattle.asn1_x691_decode.proofs.message.decode_prefix.Goals as goal

pub decode_node-requires-clause-within : goal.decode_node-requires-clause-within
decode_node-requires-clause-within c =
    let s = c.begin-state in
    begins_within c.args.context.now s.result s.ensures.at s.ensures.first s.ensures.end

pub returns-then-decode_node-clause-accepted : goal.returns-then-decode_node-clause-accepted
returns-then-decode_node-clause-accepted c =
    let cx = c.args.context.now in
    let s = c.begin-state in
    let d = c.decode_node in
    prefix_message cx s.result s.ensures.at s.ensures.first s.ensures.end c.args.depth c.args.node d.new.state c.args.parts.now d.new.parts
    s.ensures.count d.ensures.moved
    (by_true cx (λ at. (types cx c.args.depth c.args.node at).encoding) s.result d.new.state c.args.parts.now d.new.parts d.result
    c.if-decode_node.true d.ensures.did)

pub returns-clause-fault : goal.returns-clause-fault
returns-clause-fault c =
    let cx = c.args.context.now in
    let s = c.begin-state in
    let d = c.decode_node in
    prefix_fault cx s.result s.ensures.at s.ensures.first s.ensures.end c.args.depth c.args.node d.new.state d.ensures.moved
    (by_false cx (λ at. (types cx c.args.depth c.args.node at).encoding) s.result d.new.state c.args.parts.now d.new.parts d.result
    c.if-decode_node.false d.ensures.did)
