use Rattle.std.proofs.Common.{◌+◌}
use Rattle.asn1_bits.specs.Bits.{bits}
use Rattle.asn1_schema.specs.PiecesOfParts.{bits_of}
use Rattle.asn1_x691.specs.Fields.{constrained}
use Rattle.asn1_x691.specs.Strings.{units_of}
use Rattle.asn1_x691_fields.specs.NumberSteps.{turn_read}
use Rattle.asn1_x691_fields.proofs.sized_strings.next_sized_string.Goals as goal

pub returns-clause-read : goal.returns-clause-read
returns-clause-read c =
    let list = bits c.args.octets.now in
    let least = c.args.least in
    let range = c.args.range in
    turn_read list c.args.state.now c.next_constrained.new.state c.next_units_of.new.state c.in_ok-more.more (λ s. bits_of list s)
    (constrained c.args.is_aligned range c.args.node) (λ d bits. bits)
    (λ d. units_of c.args.is_aligned c.args.unit least range c.args.node (least + d)) c.next_units_of.result c.requires.within
    c.in_ok-more.ensures.onward c.in_ok-more.ensures.read c.next_units_of.ensures.read
