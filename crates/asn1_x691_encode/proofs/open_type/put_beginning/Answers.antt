use Rattle.asn1_x691_encode.specs.OpenSteps.{starts_on_octet}
use Rattle.asn1_x691_encode.proofs.open_type.put_beginning.Goals as goal

pub returns-clause-begins : goal.returns-clause-begins
returns-clause-begins c =
    starts_on_octet c.args.is_aligned c.args.octets.now c.put_start.new.octets c.args.at c.put_start.result c.put_start.ensures
