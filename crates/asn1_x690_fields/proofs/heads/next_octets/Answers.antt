use Rattle.std.proofs.Common.{◌*◌, arith}
use Rattle.asn1_bits.specs.Bits.{bits}
use Rattle.asn1_x690_fields.specs.Steps.{bits_start}
use Rattle.asn1_x690_fields.proofs.heads.next_octets.Goals as goal

pub returns-clause-read : goal.returns-clause-read
returns-clause-read c = bits_start (bits c.args.octets.now) c.args.state.now (8 * c.args.count) c.args.node
    (omega (arith, c.requires.within.ends, c.if-count-state.false)) c.requires.within.inside
