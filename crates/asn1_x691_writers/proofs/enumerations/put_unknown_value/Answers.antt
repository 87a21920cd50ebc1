use Rattle.std.proofs.Common.{true, refl}
use Rattle.asn1_schema.specs.Pieces.{UnknownEnumerated}
use Rattle.asn1_schema.specs.TypeEncodings.{leaf}
use Rattle.asn1_x691.specs.Fields.{small_number}
use Rattle.asn1_x691.specs.Leaves.{IsAddedValue, value_of_addition, enumerated}
use Rattle.asn1_x691_writers.specs.EnumeratedSteps.{unknown_value}
use Rattle.asn1_x691_writers.specs.LeafSteps.{leaf_written, bit_written}
use Rattle.asn1_x691_writers.proofs.enumerations.put_unknown_value.Goals as goal

pub returns : goal.returns
returns c =
    let aligned = c.args.is_aligned in
    let node = c.args.node in
    let last = c.args.last in
    record {
      written = bit_written node (IsAddedValue last) (enumerated aligned node last)
          (leaf (small_number aligned node) (value_of_addition last c.args.additions) node) (UnknownEnumerated c.args.n) aligned true
          c.args.octets.now c.put_bit-added.new.octets c.put_small_number-state.new.octets c.args.state.now.at c.put_bit-added.result
          c.put_small_number-state.result (c.put_bit-added.ensures aligned node)
          (leaf_written (small_number aligned node) (value_of_addition last c.args.additions) node aligned c.args.n
          (UnknownEnumerated c.args.n) c.put_bit-added.new.octets c.put_small_number-state.new.octets c.put_bit-added.result
          c.put_small_number-state.result (unknown_value last c.args.additions c.args.n c.if-n-additions.false)
          (c.put_small_number-state.ensures node));
      next = refl;
    }
