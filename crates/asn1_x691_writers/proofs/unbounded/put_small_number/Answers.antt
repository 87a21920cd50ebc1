use Rattle.asn1_x691_writers.specs.LengthSteps.{number_in_six, number_from_64}
use Rattle.asn1_x691_writers.proofs.unbounded.put_small_number.Goals as goal

pub returns-then-n-lt64 : goal.returns-then-n-lt64
returns-then-n-lt64 c node =
    number_in_six c.args.is_aligned node c.args.n c.args.octets.now c.put_number.new.octets c.args.at c.put_number.result c.if-n-lt64.true
    c.put_number.ensures

pub returns : goal.returns
returns c node =
    number_from_64 c.args.is_aligned node c.args.n c.args.octets.now c.put_number-after.new.octets c.put_semi_constrained.new.octets c.args.at
    c.put_number-after.result c.put_semi_constrained.result c.put_number-after.ensures c.if-n-lt64.false (c.put_semi_constrained.ensures node)
