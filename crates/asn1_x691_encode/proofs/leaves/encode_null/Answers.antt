use Rattle.std.proofs.Common.{Bool, sym, subst, refl, arith}
use Rattle.std.proofs.lemmas.Option.{slice_get_within}
use Rattle.asn1_schema.specs.Pieces.{Null}
use Rattle.asn1_schema.specs.TypeEncodings.{nothing, put}
use Rattle.asn1_x691.specs.declared.fault.FaultKind.{FaultKind}
use Rattle.asn1_x691_writers.specs.Put.{IsPut, piece_in}
use Rattle.asn1_x691_encode.specs.LeafSteps.{after_put, after_none}
use Rattle.asn1_x691_encode.proofs.leaves.encode_null.Goals as goal

pub returns-in-Some : goal.returns-in-Some
returns-in-Some c =
    after_put c.args.context.now (put Null (nothing {K = FaultKind}) c.args.node) c.in-Some.part c.args.octets.now c.is_null.new.octets
    c.args.state.now c.is_null.new.state c.pass.new.state
    (sym c.in-Some.ensures) c.pass.ensures.at c.pass.ensures.node c.pass.ensures.reason c.is_null.result c.pass.result c.pass.ensures.result
    (c.is_null.ensures c.args.context.now.is_aligned c.args.context.now.tables.ranges.now c.args.context.now.source.now) c.pass.ensures.passed c.pass.ensures.kept

pub returns-in-None : goal.returns-in-None
returns-in-None c =
    after_none c.args.context.now (put Null (nothing {K = FaultKind}) c.args.node) c.args.octets.now c.args.octets.now c.args.state.now
    c.reject.new.state c.reject.result c.args.node (sym c.in-None.ensures) c.reject.ensures.result c.reject.ensures.next
    c.reject.ensures.node c.reject.ensures.reason (λ at. refl)

pub pass-requires : goal.pass-requires
pass-requires c e =
    let a = subst
    (λ (b : Bool). IsPut c.args.context.now.is_aligned (put Null (nothing {K = FaultKind}) c.args.node)
    (piece_in c.args.context.now.tables.ranges.now c.args.context.now.source.now c.in-Some.part) c.args.octets.now c.args.state.now c.is_null.new.octets
    c.is_null.new.state b) e (c.is_null.ensures c.args.context.now.is_aligned c.args.context.now.tables.ranges.now c.args.context.now.source.now) in
    let within = slice_get_within c.args.context.now.parts.now c.args.state.now.next c.in-Some.part (sym c.in-Some.ensures) in
    omega (arith, a.next, within, c.requires.parts)
