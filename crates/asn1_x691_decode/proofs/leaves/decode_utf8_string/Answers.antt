use Rattle.asn1_x691.specs.Fragments.{most_fragments}
use Rattle.asn1_x691.specs.Contents.{IsUtf8Text}
use Rattle.asn1_x691.specs.Leaves.{contents}
use Rattle.asn1_x691_decode.proofs.Steps.{kept_outcome}
use Rattle.asn1_x691_decode.proofs.leaves.decode_utf8_string.Goals as goal

pub returns-clause-did : goal.returns-clause-did
returns-clause-did c =
    let cx = c.args.context.now in
    let a = c.args in
    let p = c.next_utf8_string-part in
    let k = c.keep in
    kept_outcome cx (λ at. (contents most_fragments cx.is_aligned a.node IsUtf8Text at).encoding) a.state.now p.new.state k.new.state a.parts.now k.new.parts p.result k.result
    p.ensures.onward (p.ensures.read cx.tables.ranges.now) (record { at = k.ensures.at; first = k.ensures.first; end = k.ensures.end }) k.ensures.kept
