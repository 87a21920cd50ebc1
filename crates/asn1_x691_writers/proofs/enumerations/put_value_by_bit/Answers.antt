use Rattle.std.proofs.Common.{◌-◌, true, false, refl}
use Rattle.asn1_schema.specs.Pieces.{Enumerated}
use Rattle.asn1_schema.specs.TypeEncodings.{leaf}
use Rattle.asn1_x691.specs.Fields.{constrained, small_number}
use Rattle.asn1_x691.specs.Leaves.{IsAddedValue, value_of_addition, enumerated}
use Rattle.asn1_x691_writers.specs.EnumeratedSteps.{known_value}
use Rattle.asn1_x691_writers.specs.LeafSteps.{leaf_written, bit_written}
use Rattle.asn1_x691_writers.proofs.enumerations.put_value_by_bit.Goals as goal

pub returns-then-index-last : goal.returns-then-index-last
returns-then-index-last c =
    let aligned = c.args.is_aligned in
    let node = c.args.node in
    let last = c.args.last in
    record {
      written = bit_written node (IsAddedValue last) (enumerated aligned node last)
          (leaf (small_number aligned node) (value_of_addition last c.args.additions) node) (Enumerated c.args.index) aligned false
          c.args.octets.now c.put_bit-root.new.octets c.put_constrained-state.new.octets c.args.state.now.at c.put_bit-root.result
          c.put_constrained-state.result (c.put_bit-root.ensures aligned node)
          (leaf_written (constrained aligned last node) Enumerated node aligned c.args.index (Enumerated c.args.index) c.put_bit-root.new.octets
          c.put_constrained-state.new.octets c.put_bit-root.result c.put_constrained-state.result refl (c.put_constrained-state.ensures node));
      next = refl;
    }

pub returns : goal.returns
returns c =
    let aligned = c.args.is_aligned in
    let node = c.args.node in
    let last = c.args.last in
    record {
      written = bit_written node (IsAddedValue last) (enumerated aligned node last)
          (leaf (small_number aligned node) (value_of_addition last c.args.additions) node) (Enumerated c.args.index) aligned true
          c.args.octets.now c.put_bit-added.new.octets c.put_small_number-state.new.octets c.args.state.now.at c.put_bit-added.result
          c.put_small_number-state.result (c.put_bit-added.ensures aligned node)
          (leaf_written (small_number aligned node) (value_of_addition last c.args.additions) node aligned (c.args.index - last - 1)
          (Enumerated c.args.index) c.put_bit-added.new.octets c.put_small_number-state.new.octets c.put_bit-added.result
          c.put_small_number-state.result (known_value last c.args.additions c.args.index c.if-index-last.false c.if-among-additions.false)
          (c.put_small_number-state.ensures node));
      next = refl;
    }
