use Rattle.asn1_x691.specs.Leaves.{bit_string}
use Rattle.asn1_x691.specs.Limits.{bit_fragments}
use Rattle.asn1_x691_decode.specs.Decoding.{decoder_limits}
use Rattle.asn1_x691_decode.proofs.Steps.{kept_outcome}
use Rattle.asn1_x691_decode.proofs.leaves.decode_bit_string.Goals as goal

pub returns-clause-did : goal.returns-clause-did
returns-clause-did c =
    let cx = c.args.context.now in
    let a = c.args in
    let p = c.next_bit_string-part in
    let k = c.keep in
    kept_outcome cx (λ at. (bit_string (bit_fragments decoder_limits a.has_names) cx.is_aligned a.node a.size.now a.is_extensible a.has_names at).encoding) a.state.now p.new.state k.new.state a.parts.now k.new.parts p.result k.result
    p.ensures.onward (p.ensures.read cx.tables.ranges.now) (record { at = k.ensures.at; first = k.ensures.first; end = k.ensures.end }) k.ensures.kept
