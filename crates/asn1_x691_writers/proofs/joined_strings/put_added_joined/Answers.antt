use Rattle.asn1_x691.specs.Fragments.{most_fragments}
use Rattle.std.proofs.Common.{◌*◌, inl, refl}
use Rattle.asn1_bits.specs.Bits.{bits}
use Rattle.asn1_schema.specs.PiecesOfParts.{bits_at}
use Rattle.asn1_x691.specs.declared.fault.FaultKind.TheVariants.{InRoot}
use Rattle.asn1_x691.specs.Fragments.{string}
use Rattle.asn1_x691.specs.Strings.{IsOfRoot, IsAddedSize, where_size}
use Rattle.asn1_x691_writers.specs.Joined.{bits_in}
use Rattle.asn1_x691_writers.specs.FieldSteps.{turn_constant}
use Rattle.asn1_x691_writers.proofs.joined_strings.put_added_joined.Goals as goal

pub returns : goal.returns
returns c size node added =
    let list = bits_at (bits_in (bits c.args.source.now) c.args.joined.now) 0 (c.args.joined.now.unit * c.args.count) in
    turn_constant c.args.is_aligned c.args.octets.now c.put_joined_units.new.octets c.args.at c.put_joined_units.result
    (string most_fragments c.args.is_aligned c.args.joined.now.unit node) (λ v bits. bits) (λ v. where_size (IsAddedSize size) (IsOfRoot size) InRoot node v)
    (c.args.count, list) list (c.put_joined_units.ensures node) (λ p. inl (added, (refl, refl)))
