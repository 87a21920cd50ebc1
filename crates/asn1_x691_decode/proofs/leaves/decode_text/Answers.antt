use Rattle.std.proofs.Common.{Bool, sym, subst}
use Rattle.asn1_x691.specs.Leaves.{text}
use Rattle.asn1_x691_fields.specs.Characters.{rows_of}
use Rattle.asn1_x691_decode.specs.Decoding.{Outcome}
use Rattle.asn1_x691_decode.proofs.leaves.decode_text.Goals as goal

pub returns-then-is_extensible-clause-did : goal.returns-then-is_extensible-clause-did
returns-then-is_extensible-clause-did c =
    let cx = c.args.context.now in
    let a = c.args in
    let p = c.decode_extensible_text in
    subst (λ (b : Bool). Outcome cx (λ at. (text 0 cx.is_aligned a.node a.size.now b (rows_of cx.tables.ranges.now a.alphabet)
    (rows_of cx.tables.ranges.now a.whole) at).encoding) a.state.now p.new.state a.parts.now p.new.parts p.result)
    (sym c.if-is_extensible.true) p.ensures.did

pub returns-clause-did : goal.returns-clause-did
returns-clause-did c =
    let cx = c.args.context.now in
    let a = c.args in
    let p = c.decode_text_of_root in
    subst (λ (b : Bool). Outcome cx (λ at. (text 0 cx.is_aligned a.node a.size.now b (rows_of cx.tables.ranges.now a.alphabet)
    (rows_of cx.tables.ranges.now a.whole) at).encoding) a.state.now p.new.state a.parts.now p.new.parts p.result)
    (sym c.if-is_extensible.false) p.ensures.did
