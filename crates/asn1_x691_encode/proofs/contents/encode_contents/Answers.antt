use Rattle.asn1_x691.specs.Fragments.{most_fragments}
use Rattle.std.proofs.Common.{sym, refl}
use Rattle.asn1_x691.specs.Leaves.{contents}
use Rattle.asn1_x691_writers.specs.Validity.{IsValid}
use Rattle.asn1_x691_encode.specs.Encoding.{node_of}
use Rattle.asn1_x691_encode.specs.LeafSteps.{after_put, after_none, next_fits, after_leave, contents_later}
use Rattle.asn1_x691_encode.proofs.contents.encode_contents.Goals as goal

pub returns-in-Some-2 : goal.returns-in-Some-2
returns-in-Some-2 c =
    after_put c.args.context.now (contents most_fragments c.args.context.now.is_aligned c.args.node (IsValid c.args.kind)) c.in-Some.part
    c.args.octets.now c.put_contents.new.octets c.args.state.now c.put_contents.new.state c.pass.new.state (sym c.in-Some.ensures)
    c.pass.ensures.at c.pass.ensures.node c.pass.ensures.reason c.put_contents.result c.pass.result c.pass.ensures.result
    (c.put_contents.ensures c.args.context.now.tables.ranges.now) c.pass.ensures.passed c.pass.ensures.kept

pub returns-in-None : goal.returns-in-None
returns-in-None c =
    after_none c.args.context.now (contents most_fragments c.args.context.now.is_aligned c.args.node (IsValid c.args.kind)) c.args.octets.now c.args.octets.now
    c.args.state.now c.reject.new.state c.reject.result c.args.node (sym c.in-None.ensures) c.reject.ensures.result c.reject.ensures.next
    c.reject.ensures.node c.reject.ensures.reason (λ at. refl)

pub pass-requires : goal.pass-requires
pass-requires c =
    next_fits c.args.context.now (contents most_fragments c.args.context.now.is_aligned c.args.node (IsValid c.args.kind)) c.in-Some.part c.args.octets.now c.put_contents.new.octets
    c.args.state.now c.put_contents.new.state c.put_contents.result (sym c.in-Some.ensures) c.requires.parts
    (c.put_contents.ensures c.args.context.now.tables.ranges.now)

pub returns-in-Some : goal.returns-in-Some
returns-in-Some c =
    after_leave c.args.context.now (contents most_fragments c.args.context.now.is_aligned c.args.node (IsValid c.args.kind)) c.args.octets.now c.args.state.now
    c.leave.new.state c.args.node (node_of c.args.kind) c.leave.result c.leave.ensures.result c.leave.ensures.next c.leave.ensures.node
    c.leave.ensures.reason c.requires.kind
    (contents_later c.args.context.now c.args.state.now.next c.args.kind (c.is_left.ensures.kind c.if-is_left.true)
    (record { part = c.in-Some.part; is = sym c.in-Some.ensures; in_fragments = c.is_left.ensures.yes c.if-is_left.true }))
