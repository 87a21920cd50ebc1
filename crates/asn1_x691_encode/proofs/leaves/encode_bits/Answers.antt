use Rattle.asn1_x691.specs.Fragments.{most_fragments}
use Rattle.asn1_schema.specs.declared.tables.Node.TheVariants as type
use Rattle.asn1_schema.specs.declared.misfit.MisfitKind.TheVariants.{NoPart}
use Rattle.std.proofs.Common.{[], true, false, sym, refl, inl}
use Rattle.asn1_x691.specs.Leaves.{bit_string}
use Rattle.asn1_x691_encode.specs.LeafSteps.{after_put, after_none, next_fits, after_leave}
use Rattle.asn1_x691_encode.proofs.leaves.encode_bits.Goals as goal

pub returns-in-Some-2 : goal.returns-in-Some-2
returns-in-Some-2 c =
    after_put c.args.context.now (bit_string most_fragments c.args.context.now.is_aligned c.args.node c.args.size.now c.args.is_extensible c.args.has_names) c.in-Some.part c.args.octets.now c.put_bit_string.new.octets c.args.state.now c.put_bit_string.new.state c.pass.new.state
    (sym c.in-Some.ensures) c.pass.ensures.at c.pass.ensures.node c.pass.ensures.reason c.put_bit_string.result c.pass.result c.pass.ensures.result
    (c.put_bit_string.ensures c.args.context.now.tables.ranges.now) c.pass.ensures.passed c.pass.ensures.kept

pub returns-in-None : goal.returns-in-None
returns-in-None c =
    after_none c.args.context.now (bit_string most_fragments c.args.context.now.is_aligned c.args.node c.args.size.now c.args.is_extensible c.args.has_names) c.args.octets.now c.args.octets.now
    c.args.state.now c.reject.new.state c.reject.result c.args.node (sym c.in-None.ensures) c.reject.ensures.result c.reject.ensures.next
    c.reject.ensures.node c.reject.ensures.reason (λ at.
    elim c.args.is_extensible as
    (λ b. (bit_string most_fragments c.args.context.now.is_aligned c.args.node c.args.size.now b c.args.has_names at).misfit [] (record { node = c.args.node; left = 0; kind = NoPart }))
    [ true ↦ inl refl | false ↦ refl ])

pub pass-requires : goal.pass-requires
pass-requires c =
    next_fits c.args.context.now (bit_string most_fragments c.args.context.now.is_aligned c.args.node c.args.size.now c.args.is_extensible c.args.has_names) c.in-Some.part c.args.octets.now c.put_bit_string.new.octets
    c.args.state.now c.put_bit_string.new.state c.put_bit_string.result (sym c.in-Some.ensures) c.requires.parts
    (c.put_bit_string.ensures c.args.context.now.tables.ranges.now)

pub returns-in-Some : goal.returns-in-Some
returns-in-Some c =
    after_leave c.args.context.now (bit_string most_fragments c.args.context.now.is_aligned c.args.node c.args.size.now c.args.is_extensible c.args.has_names) c.args.octets.now c.args.state.now
    c.leave.new.state c.args.node (type.BitString c.args.size.now c.args.is_extensible c.args.has_names) c.leave.result c.leave.ensures.result c.leave.ensures.next c.leave.ensures.node
    c.leave.ensures.reason c.requires.kind
    (record { part = c.in-Some.part; is = sym c.in-Some.ensures; in_fragments = c.has_many_bits.ensures.yes c.if-has_many_bits.true })
