use Rattle.asn1_bits.specs.Bits.{bits}
use Rattle.asn1_schema.specs.Pieces.{Unknown}
use Rattle.asn1_schema.specs.PiecesOfParts.{bits_of}
use Rattle.asn1_x691.specs.Fragments.{octets}
use Rattle.asn1_x691_decode.proofs.Steps.{leaf_decoded}
use Rattle.asn1_x691_decode.proofs.additions.keep_octets.Goals as goal

pub returns-in-Some-clause-did : goal.returns-in-Some-clause-did
returns-in-Some-clause-did c =
    let cx = c.args.context.now in
    let list = bits cx.octets.now in
    leaf_decoded cx (octets 0 cx.is_aligned c.args.node) Unknown c.args.state.now c.next_octets.new.state c.push.new.state c.args.parts.now
    c.push.new.parts (bits_of list c.in-Some.span) c.requires.within c.next_octets.ensures.onward c.in-Some.ensures.read
    (record { at = c.push.ensures.at; first = c.push.ensures.first; end = c.push.ensures.end }) (c.push.ensures.grown cx.tables.ranges.now list)
