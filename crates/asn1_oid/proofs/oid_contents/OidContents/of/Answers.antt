use Rattle.std.proofs.Common.{◌∙◌}
use Rattle.asn1_oid.proofs.WritingLemmas.{word_is, both_left-zero}
use Rattle.asn1_oid.proofs.oid_contents.OidContents.of.Goals as goal

pub returns : goal.returns
returns c = λ k digits.
    let octets = c.octets_in_word-octets in
    both_left-zero octets.result.0 octets.result.1 c.args.arcs.now
    ∙ word_is c.args.number octets.result.0 k octets.result.1 c.args.arcs.now octets.ensures.digits digits
    octets.ensures.octets
