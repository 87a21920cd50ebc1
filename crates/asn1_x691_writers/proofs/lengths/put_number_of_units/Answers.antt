use Rattle.asn1_x691.specs.Fragments.{units_octets}
use Rattle.asn1_x691_writers.specs.FieldSteps.{octet_written}
use Rattle.asn1_x691_writers.proofs.lengths.put_number_of_units.Goals as goal

pub returns : goal.returns
returns c node =
    octet_written node (units_octets node) c.args.n c.args.octets.now c.put_start-octet.new.octets c.put_length_octets.new.octets c.args.at
    c.put_start-octet.result c.put_length_octets.result c.args.is_aligned c.put_start-octet.ensures
    (c.put_length_octets.ensures.units c.args.is_aligned node)
