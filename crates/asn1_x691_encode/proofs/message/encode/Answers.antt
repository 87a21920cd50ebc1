use Rattle.std.proofs.Common.{refl}
use Rattle.asn1_x691_encode.proofs.MessageSteps.{rejected_is, message_is}
use Rattle.asn1_x691_encode.proofs.message.encode.Goals as goal

pub returns-then-not-encode_node-clause-misfit : goal.returns-then-not-encode_node-clause-misfit
returns-then-not-encode_node-clause-misfit c =
    rejected_is c.args.context.now c.args.depth c.args.node _ c.encode_node.new.state refl refl
    (c.if-not-encode_node.ensures)

pub returns-clause-encoded : goal.returns-clause-encoded
returns-clause-encoded c =
    message_is c.args.context.now c.args.depth c.args.node c.args.octets.now c.encode_node.new.octets c.put_zeros-end.new.octets _
    c.encode_node.new.state c.put_zeros-end.result c.zeros_after.result refl refl (c.if-not-encode_node.ensures)
    c.zeros_after.ensures.value c.put_zeros-end.ensures
