use Rattle.std.proofs.Common.{sym, subst}
use Rattle.asn1_bits.specs.Bits.{bits}
use Rattle.asn1_schema.specs.declared.tables.Node.{Node}
use Rattle.asn1_schema.specs.Pieces.{Truth, Octets}
use Rattle.asn1_schema.specs.PiecesOfParts.{bits_of}
use Rattle.asn1_x690.specs.Der.{always}
use Rattle.asn1_x690.specs.Leaves.{IsBoolean, AreOctets, IsKept, IsObjectIdentifier, AreSized}
use Rattle.asn1_x690_decode.specs.Tables.{contents_by}
use Rattle.asn1_x690_decode.specs.Decoding.{IsLeaf}
use Rattle.asn1_x690_decode.proofs.LeafSteps.{told_leaf, leaf_at}
use Rattle.asn1_x690_decode.proofs.leaves.decode_leaf.Goals as goal

pub finish_leaf-requires-clause-read : goal.finish_leaf-requires-clause-read
finish_leaf-requires-clause-read c =
    leaf_at c.args.context.now c.args.of.now.node c.args.of.now.tags.now c.args.of.now.is.now c.args.state.now c.contents_of-span.result c.object_identifier-read.result
    c.contents_of-span.ensures
    (λ depth.
    let contents = bits_of (bits c.args.context.now.octets.now) c.contents_of-span.result in
    subst (λ (n : Node). IsLeaf c.args.context.now (contents_by c.args.context.now depth c.args.of.now.node c.args.of.now.tags.now n)
    c.args.of.now.node contents c.object_identifier-read.result) (sym c.in-ObjectIdentifier.is)
    (told_leaf (IsKept IsObjectIdentifier) always Octets c.args.context.now c.args.of.now.node contents c.object_identifier-read.result
    (c.object_identifier-read.ensures c.args.context.now.tables.ranges.now)))

pub finish_leaf-requires-in-OctetString-clause-read : goal.finish_leaf-requires-in-OctetString-clause-read
finish_leaf-requires-in-OctetString-clause-read c =
    leaf_at c.args.context.now c.args.of.now.node c.args.of.now.tags.now c.args.of.now.is.now c.args.state.now c.contents_of-span.result c.octet_string-read.result
    c.contents_of-span.ensures
    (λ depth.
    let contents = bits_of (bits c.args.context.now.octets.now) c.contents_of-span.result in
    subst (λ (n : Node). IsLeaf c.args.context.now (contents_by c.args.context.now depth c.args.of.now.node c.args.of.now.tags.now n)
    c.args.of.now.node contents c.octet_string-read.result) (sym c.in-OctetString.is)
    (told_leaf AreOctets (AreSized c.in-OctetString.is_extensible c.in-OctetString.length) Octets c.args.context.now c.args.of.now.node contents c.octet_string-read.result
    (c.octet_string-read.ensures c.args.context.now.tables.ranges.now)))

pub finish_leaf-requires-in-Boolean-clause-read : goal.finish_leaf-requires-in-Boolean-clause-read
finish_leaf-requires-in-Boolean-clause-read c =
    leaf_at c.args.context.now c.args.of.now.node c.args.of.now.tags.now c.args.of.now.is.now c.args.state.now c.contents_of-span.result c.boolean-read.result
    c.contents_of-span.ensures
    (λ depth.
    let contents = bits_of (bits c.args.context.now.octets.now) c.contents_of-span.result in
    subst (λ (n : Node). IsLeaf c.args.context.now (contents_by c.args.context.now depth c.args.of.now.node c.args.of.now.tags.now n)
    c.args.of.now.node contents c.boolean-read.result) (sym c.in-Boolean.is)
    (told_leaf IsBoolean always Truth c.args.context.now c.args.of.now.node contents c.boolean-read.result
    (c.boolean-read.ensures c.args.context.now.tables.ranges.now)))
