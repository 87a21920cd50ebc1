use Rattle.std.proofs.Common.{sym, ◌∙◌}
use Rattle.asn1_x691_fields.specs.Steps.{one_bit}
use Rattle.asn1_x691_writers.proofs.held.bit_at.Goals as goal

pub returns : goal.returns
returns c = sym c.read_few.ensures.digits ∙ one_bit c.read_few.result c.read_few.ensures.below
