use Rattle.std.proofs.Common.{◌-◌}
use Rattle.asn1_schema.specs.Encodings.{invalid}
use Rattle.asn1_x691.specs.declared.fault.FaultKind.TheVariants.{Fragment}
use Rattle.asn1_x691.specs.Fragments.{fragment}
use Rattle.asn1_x691_writers.specs.LengthSteps.{two_octets}
use Rattle.asn1_x691_writers.proofs.lengths.put_length_octets.Goals as goal

pub returns-clause-length : goal.returns-clause-length
returns-clause-length c aligned node =
    two_octets node c.args.n (λ first. invalid Fragment node) aligned c.args.octets.now c.put_number-2.new.octets c.args.at
    c.put_number-2.result c.if-n-lt128.false c.requires.few c.put_number-2.ensures

pub returns-clause-units : goal.returns-clause-units
returns-clause-units c aligned node =
    two_octets node c.args.n (λ first. fragment node (first - 192)) aligned c.args.octets.now c.put_number-2.new.octets c.args.at
    c.put_number-2.result c.if-n-lt128.false c.requires.few c.put_number-2.ensures
