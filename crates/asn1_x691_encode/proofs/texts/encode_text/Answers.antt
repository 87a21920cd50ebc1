use Rattle.std.proofs.Common.{[], true, false, sym, refl, inl}
use Rattle.asn1_schema.specs.declared.misfit.MisfitKind.TheVariants.{NoPart}
use Rattle.asn1_x691.specs.Fragments.{most_fragments}
use Rattle.asn1_x691.specs.Leaves.{text}
use Rattle.asn1_x691_fields.specs.Characters.{rows_of}
use Rattle.asn1_x691_encode.specs.LeafSteps.{after_put, after_none, next_fits}
use Rattle.asn1_x691_encode.proofs.texts.encode_text.Goals as goal

pub returns-in-Some : goal.returns-in-Some
returns-in-Some c =
    let cx = c.args.context.now in
    after_put cx
    (text most_fragments cx.is_aligned c.args.node c.args.size.now c.args.is_extensible (rows_of cx.tables.ranges.now c.args.alphabet)
    (rows_of cx.tables.ranges.now c.args.whole)) c.in-Some.part c.args.octets.now c.put_text.new.octets c.args.state.now c.put_text.new.state
    c.pass.new.state (sym c.in-Some.ensures) c.pass.ensures.at c.pass.ensures.node c.pass.ensures.reason c.put_text.result c.pass.result
    c.pass.ensures.result c.put_text.ensures c.pass.ensures.passed c.pass.ensures.kept

pub returns-in-None : goal.returns-in-None
returns-in-None c =
    let cx = c.args.context.now in
    let ranges = rows_of cx.tables.ranges.now c.args.alphabet in
    let whole = rows_of cx.tables.ranges.now c.args.whole in
    after_none cx (text most_fragments cx.is_aligned c.args.node c.args.size.now c.args.is_extensible ranges whole) c.args.octets.now
    c.args.octets.now c.args.state.now c.reject.new.state c.reject.result c.args.node (sym c.in-None.ensures) c.reject.ensures.result
    c.reject.ensures.next c.reject.ensures.node c.reject.ensures.reason
    (λ at.
    elim c.args.is_extensible as
    (λ b.
    (text most_fragments cx.is_aligned c.args.node c.args.size.now b ranges whole at).misfit []
    (record { node = c.args.node; left = 0; kind = NoPart }))
    [ true ↦ inl refl | false ↦ refl ])

pub pass-requires : goal.pass-requires
pass-requires c =
    let cx = c.args.context.now in
    next_fits cx
    (text most_fragments cx.is_aligned c.args.node c.args.size.now c.args.is_extensible (rows_of cx.tables.ranges.now c.args.alphabet)
    (rows_of cx.tables.ranges.now c.args.whole)) c.in-Some.part c.args.octets.now c.put_text.new.octets
    c.args.state.now c.put_text.new.state c.put_text.result (sym c.in-Some.ensures) c.requires.parts c.put_text.ensures
