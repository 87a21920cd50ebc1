use Rattle.asn1_bits.specs.Bits.{bits}
use Rattle.asn1_schema.specs.Pieces.{Truth}
use Rattle.asn1_schema.specs.Encodings.{anywhere}
use Rattle.asn1_x691.specs.Strings.{bit}
use Rattle.asn1_x691_decode.proofs.Steps.{leaf_decoded}
use Rattle.asn1_x691_decode.proofs.leaves.decode_boolean.Goals as goal

pub returns-in-Some-clause-did : goal.returns-in-Some-clause-did
returns-in-Some-clause-did c =
    leaf_decoded c.args.context.now (anywhere (bit c.args.node)) Truth c.args.state.now c.next_bit.new.state c.push.new.state c.args.parts.now
    c.push.new.parts c.in-Some.bit c.requires.within c.next_bit.ensures.onward c.in-Some.ensures.read
    (record { at = c.push.ensures.at; first = c.push.ensures.first; end = c.push.ensures.end }) (c.push.ensures.grown c.args.context.now.tables.ranges.now (bits c.args.context.now.octets.now))
