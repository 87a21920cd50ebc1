use Rattle.asn1_x691.specs.OpenTypes.{complete}
use Rattle.asn1_x691_decode.specs.Decoding.{types}
use Rattle.asn1_x691_decode.proofs.OpenSteps.{contents_true, contents_false}
use Rattle.asn1_x691_decode.proofs.MessageSteps.{begins_within, complete_message, fault_message}
use Rattle.asn1_x691_decode.proofs.message.decode.Goals as goal

pub decode_complete-requires-clause-within : goal.decode_complete-requires-clause-within
decode_complete-requires-clause-within c =
    let s = c.begin-state in
    begins_within c.args.context.now s.result s.ensures.at s.ensures.first s.ensures.end

pub returns-then-decode_complete-clause-accepted : goal.returns-then-decode_complete-clause-accepted
returns-then-decode_complete-clause-accepted c =
    let cx = c.args.context.now in
    let s = c.begin-state in
    let d = c.decode_complete in
    complete_message cx s.result s.ensures.at s.ensures.first s.ensures.end c.args.depth c.args.node d.new.state c.args.parts.now d.new.parts
    s.ensures.count
    (contents_true cx (complete c.args.node (types cx c.args.depth c.args.node)) s.result d.new.state c.args.parts.now d.new.parts d.result
    c.if-decode_complete.true d.ensures.did)

pub returns-clause-fault : goal.returns-clause-fault
returns-clause-fault c =
    let cx = c.args.context.now in
    let s = c.begin-state in
    let d = c.decode_complete in
    fault_message cx s.result s.ensures.at s.ensures.first s.ensures.end c.args.depth c.args.node d.new.state d.ensures.moved
    (contents_false cx (complete c.args.node (types cx c.args.depth c.args.node)) s.result d.new.state c.args.parts.now d.new.parts d.result
    c.if-decode_complete.false d.ensures.did)
