use Rattle.std.proofs.Common.{◌-◌, ◌*◌, ◌++◌}
use Rattle.asn1_bits.specs.Bits.{bits}
use Rattle.asn1_schema.specs.PiecesOfParts.{bits_at}
use Rattle.asn1_x691.specs.Fragments.{most_fragments, bits_of_units}
use Rattle.asn1_x691_writers.specs.StringSteps.{few_units}
use Rattle.asn1_x691_writers.proofs.strings.put_units.Goals as goal

pub returns-then-count-lt16384 : goal.returns-then-count-lt16384
unfolding most_fragments
returns-then-count-lt16384 c node =
    few_units (bits_of_units c.args.unit node) (λ a b. a ++ b) c.args.is_aligned node c.args.count (bits_at (bits c.args.source.now) c.args.from (c.args.unit * c.args.count))
    c.args.octets.now c.put_few.new.octets c.args.at c.put_few.result (c.put_few.ensures node) (most_fragments - 1) c.if-count-lt16384.true
