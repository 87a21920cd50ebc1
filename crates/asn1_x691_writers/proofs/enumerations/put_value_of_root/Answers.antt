use Rattle.std.proofs.Common.{refl, arith}
use Rattle.asn1_schema.specs.declared.misfit.MisfitKind.TheVariants.{NoEncoding}
use Rattle.asn1_schema.specs.Pieces.{Enumerated}
use Rattle.asn1_x691.specs.Fields.{constrained}
use Rattle.asn1_x691.specs.Leaves.{enumerated}
use Rattle.asn1_x691.specs.Laws.RangeLaws.{constrained_within}
use Rattle.asn1_x691_writers.specs.LeafSteps.{leaf_written, leaf_none}
use Rattle.asn1_x691_writers.specs.PutSteps.{rejected}
use Rattle.asn1_x691_writers.proofs.enumerations.put_value_of_root.Goals as goal

pub returns-then-index-last : goal.returns-then-index-last
returns-then-index-last c =
    let aligned = c.args.is_aligned in
    let node = c.args.node in
    let last = c.args.last in
    rejected aligned (enumerated aligned node last) (Enumerated c.args.index) c.args.octets.now c.args.state.now c.reject.new.state
    c.reject.result node NoEncoding c.reject.ensures.result c.reject.ensures.at c.reject.ensures.next c.reject.ensures.node
    c.reject.ensures.reason
    (leaf_none (constrained aligned last node) Enumerated node (Enumerated c.args.index) c.args.index refl
    (λ at p. let few = constrained_within aligned last node at c.args.index p.list p.encoded in omega (arith, few, c.if-index-last.true)))

pub returns : goal.returns
returns c = record {
  written = leaf_written (constrained c.args.is_aligned c.args.last c.args.node) Enumerated c.args.node c.args.is_aligned c.args.index
      (Enumerated c.args.index) c.args.octets.now c.put_constrained-state.new.octets c.args.state.now.at c.put_constrained-state.result refl
      (c.put_constrained-state.ensures c.args.node);
  next = refl;
}
