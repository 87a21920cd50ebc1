use Rattle.asn1_schema.specs.Pieces.{Text}
use Rattle.asn1_schema.specs.TypeEncodings.{leaf}
use Rattle.asn1_x691.specs.Characters.{text_of}
use Rattle.asn1_x691_fields.specs.Characters.{rows_of}
use Rattle.asn1_x691_decode.proofs.Steps.{kept_outcome}
use Rattle.asn1_x691_decode.proofs.leaves.decode_text_of_root.Goals as goal

pub returns-clause-did : goal.returns-clause-did
returns-clause-did c =
    let cx = c.args.context.now in
    let a = c.args in
    let p = c.next_text_of_root-part in
    let k = c.keep in
    kept_outcome cx (λ at. (leaf (text_of 0 cx.is_aligned (rows_of cx.tables.ranges.now a.alphabet) a.node a.size) Text a.node at).encoding) a.state.now p.new.state k.new.state a.parts.now k.new.parts p.result k.result
    p.ensures.onward (p.ensures.read) (record { at = k.ensures.at; first = k.ensures.first; end = k.ensures.end }) k.ensures.kept
