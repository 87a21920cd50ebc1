use Rattle.std.proofs.Common.{true}
use Rattle.asn1_x691.specs.Leaves.{text}
use Rattle.asn1_x691_fields.specs.Characters.{rows_of}
use Rattle.asn1_x691_decode.proofs.Steps.{kept_outcome}
use Rattle.asn1_x691_decode.proofs.leaves.decode_extensible_text.Goals as goal

pub returns-clause-did : goal.returns-clause-did
returns-clause-did c =
    let cx = c.args.context.now in
    let a = c.args in
    let p = c.next_extensible_text-part in
    let k = c.keep in
    kept_outcome cx (λ at. (text 0 cx.is_aligned a.node a.size.now true (rows_of cx.tables.ranges.now a.alphabet) (rows_of cx.tables.ranges.now a.whole) at).encoding) a.state.now p.new.state k.new.state a.parts.now k.new.parts p.result k.result
    p.ensures.onward (p.ensures.read) (record { at = k.ensures.at; first = k.ensures.first; end = k.ensures.end }) k.ensures.kept
