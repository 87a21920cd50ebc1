use Rattle.std.proofs.Common.{sym}
use Rattle.asn1_schema.specs.Times.{IsTime}
use Rattle.asn1_x691.specs.Fragments.{most_fragments}
use Rattle.asn1_x691.specs.Leaves.{time}
use Rattle.asn1_x691_encode.specs.LeafSteps.{after_put}
use Rattle.asn1_x691_encode.proofs.texts.encode_time.Goals as goal

pub returns-in-Some : goal.returns-in-Some
returns-in-Some c =
    let cx = c.args.context.now in
    after_put cx (time most_fragments cx.is_aligned c.args.node (IsTime c.args.kind)) c.in-Some.part c.args.octets.now c.put_time.new.octets
    c.args.state.now c.put_time.new.state c.pass.new.state (sym c.in-Some.ensures) c.pass.ensures.at c.pass.ensures.node c.pass.ensures.reason
    c.put_time.result c.pass.result c.pass.ensures.result c.put_time.ensures c.pass.ensures.passed c.pass.ensures.kept
