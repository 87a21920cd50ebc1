use Rattle.std.proofs.Common.{ap, refl}
use Rattle.asn1_schema.specs.Encodings.{anywhere}
use Rattle.asn1_schema.specs.Pieces.{Truth}
use Rattle.asn1_x691.specs.Strings.{bit}
use Rattle.asn1_x691_writers.specs.Put.{piece_in}
use Rattle.asn1_x691_writers.specs.LeafSteps.{leaf_written}
use Rattle.asn1_x691_writers.proofs.booleans.put_boolean.Goals as goal

pub returns-in-Truth : goal.returns-in-Truth
returns-in-Truth c aligned ranges source = record {
  written = leaf_written (anywhere (bit c.args.node)) Truth c.args.node aligned c.in-Truth.is_one (piece_in ranges source c.args.part) c.args.octets.now
      c.put_bit-state.new.octets c.args.state.now.at c.put_bit-state.result (ap (piece_in ranges source) c.in-Truth.is)
      (c.put_bit-state.ensures aligned c.args.node);
  next = refl;
}
