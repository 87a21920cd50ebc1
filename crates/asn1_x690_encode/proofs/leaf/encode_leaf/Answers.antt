use Rattle.std.proofs.Common.{sym, inl, inr, ◌∙◌, subst, ap, length, ℕ}
use Rattle.std.specs.Prelude.{slice_get}
use Rattle.asn1_schema.specs.declared.misfit.MisfitKind.TheVariants.{NoPart}
use Rattle.asn1_schema.specs.Pieces.{Parts}
use Rattle.asn1_x690_writers.specs.Leaf.{leaf_in, IsLeftOut}
use Rattle.asn1_x690_writers.specs.Put.{LeftAt}
use Rattle.asn1_x691_writers.specs.Put.{piece_in}
use Rattle.asn1_x690_encode.specs.Encoding.{IsPartLeft}
use Rattle.asn1_x690_encode.specs.Steps.{after_put, next_fits, stopped_here, part_none, leaf_none}
use Rattle.asn1_x690_encode.proofs.leaf.encode_leaf.Goals as goal

pub returns-in-Some : goal.returns-in-Some
returns-in-Some c =
    let a = c.args in
    let cx = a.context.now in
    let p = c.in-Some.part.now in
    let F = leaf_in cx.tables.ranges.now cx.tags.numbers.now a.node a.types.now a.kind.now in
    let k = c.put_leaf in
    let L = LeftAt (IsLeftOut cx.source.now a.kind.now p (piece_in cx.tables.ranges.now cx.source.now p)) a.node k.new.state in
    let e = c.pass.ensures in
    after_put cx F L p a.octets.now k.new.octets a.state.now k.new.state c.pass.new.state (sym c.in-Some.ensures) e.at e.node e.reason
    (λ l reason next. inr (inl (
      reason,
      inl (subst (λ (n : ℕ). IsPartLeft cx n c.pass.new.state.next) (sym (e.node ∙ l.same)) (record {
        kind = a.kind.now;
        tags = a.types.now;
        type = c.requires.kind;
        part = p;
        is = ap (λ (i : ℕ). slice_get cx.parts.now i) next ∙ sym c.in-Some.ensures;
        left = inl l.holds;
      })),
    )))
    k.result c.pass.result e.result k.ensures e.passed e.kept

pub returns-in-None : goal.returns-in-None
returns-in-None c =
    let a = c.args in
    let cx = a.context.now in
    let F = leaf_in cx.tables.ranges.now cx.tags.numbers.now a.node a.types.now a.kind.now in
    let e = c.reject.ensures in
    stopped_here cx F.misfit a.octets.now a.octets.now a.state.now c.reject.new.state c.reject.result a.node NoPart F.contents.fills e.result e.next
    e.node e.reason
    (let t = part_none cx a.state.now.next (sym c.in-None.ensures) in
    subst (λ (l : Parts). F.misfit l (record { node = a.node; left = length l; kind = NoPart })) (sym t) (leaf_none cx a.node a.types.now a.kind.now))

pub pass-requires : goal.pass-requires
pass-requires c e =
    let a = c.args in
    let cx = a.context.now in
    let p = c.in-Some.part.now in
    let F = leaf_in cx.tables.ranges.now cx.tags.numbers.now a.node a.types.now a.kind.now in
    let q = piece_in cx.tables.ranges.now cx.source.now p in
    let k = c.put_leaf in
    next_fits cx F (LeftAt (IsLeftOut cx.source.now a.kind.now p q) a.node k.new.state) p q a.octets.now k.new.octets a.state.now k.new.state k.result (sym c.in-Some.ensures)
    c.requires.parts k.ensures e
