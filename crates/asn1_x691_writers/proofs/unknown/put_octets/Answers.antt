use Rattle.asn1_x691.specs.Fragments.{most_fragments}
use Rattle.std.proofs.Common.{◌*◌, refl}
use Rattle.asn1_bits.specs.Bits.{bits}
use Rattle.asn1_schema.specs.Encodings.{anywhere, constant}
use Rattle.asn1_schema.specs.PiecesOfParts.{bits_at}
use Rattle.asn1_x691.specs.Fragments.{string}
use Rattle.asn1_x691_writers.specs.FieldSteps.{turn_constant}
use Rattle.asn1_x691_writers.proofs.unknown.put_octets.Goals as goal

pub returns : goal.returns
returns c node =
    let list = bits_at (bits c.args.source.now) c.args.from (8 * c.args.count) in
    turn_constant c.args.is_aligned c.args.octets.now c.put_units.new.octets c.args.at c.put_units.result
    (string most_fragments c.args.is_aligned 8 node) (λ v u. v.1) (λ v. anywhere (constant (tt {0}))) (c.args.count, list) tt (c.put_units.ensures node)
    (λ p. (refl, refl))
