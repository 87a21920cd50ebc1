use Rattle.std.proofs.Common.{sym, refl}
use Rattle.asn1_schema.specs.Pieces.{Unknown}
use Rattle.asn1_schema.specs.TypeEncodings.{leaf}
use Rattle.asn1_x691.specs.Fragments.{most_fragments, octets}
use Rattle.asn1_x691_encode.specs.LeafSteps.{after_put, after_none, next_fits}
use Rattle.asn1_x691_encode.proofs.leaves.encode_unknown.Goals as goal

pub returns-in-Some : goal.returns-in-Some
returns-in-Some c =
    after_put c.args.context.now (leaf (octets most_fragments c.args.context.now.is_aligned c.args.node) Unknown c.args.node) c.in-Some.part c.args.octets.now c.put_unknown.new.octets c.args.state.now c.put_unknown.new.state c.pass.new.state
    (sym c.in-Some.ensures) c.pass.ensures.at c.pass.ensures.node c.pass.ensures.reason c.put_unknown.result c.pass.result c.pass.ensures.result
    (c.put_unknown.ensures c.args.context.now.tables.ranges.now) c.pass.ensures.passed c.pass.ensures.kept

pub returns-in-None : goal.returns-in-None
returns-in-None c =
    after_none c.args.context.now (leaf (octets most_fragments c.args.context.now.is_aligned c.args.node) Unknown c.args.node) c.args.octets.now c.args.octets.now
    c.args.state.now c.reject.new.state c.reject.result c.args.node (sym c.in-None.ensures) c.reject.ensures.result c.reject.ensures.next
    c.reject.ensures.node c.reject.ensures.reason (λ at. refl)

pub pass-requires : goal.pass-requires
pass-requires c =
    next_fits c.args.context.now (leaf (octets most_fragments c.args.context.now.is_aligned c.args.node) Unknown c.args.node) c.in-Some.part c.args.octets.now c.put_unknown.new.octets
    c.args.state.now c.put_unknown.new.state c.put_unknown.result (sym c.in-Some.ensures) c.requires.parts
    (c.put_unknown.ensures c.args.context.now.tables.ranges.now)
