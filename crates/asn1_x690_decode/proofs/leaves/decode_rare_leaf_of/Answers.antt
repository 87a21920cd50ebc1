use Rattle.asn1_x690_decode.proofs.LeafSteps.{leaf_at}
use Rattle.asn1_x690_decode.proofs.leaves.decode_rare_leaf_of.Goals as goal

pub finish_leaf-requires-clause-read : goal.finish_leaf-requires-clause-read
finish_leaf-requires-clause-read c =
    leaf_at c.args.context.now c.args.of.now.node c.args.of.now.tags.now c.args.of.now.is.now c.args.state.now c.contents_of.result
    c.read_leaf-read.result c.contents_of.ensures c.read_leaf-read.ensures
