use Rattle.std.proofs.Common.{sym, subst}
use Rattle.asn1_schema.specs.declared.tables.Node.{Node}
use Rattle.asn1_x690_writers.specs.Leaf.{leaf_in, IsLeftOut}
use Rattle.asn1_x690_writers.specs.Put.{IsPut, LeftAt}
use Rattle.asn1_x691_writers.specs.Put.{piece_in}
use Rattle.asn1_x690_writers.proofs.leaf.put_leaf.Goals as goal

pub returns-in-OctetString : goal.returns-in-OctetString
returns-in-OctetString c =
    let a = c.args in
    let k = c.in-OctetString in
    let p = piece_in a.ranges.now a.source.now a.part.now in
    subst
    (λ (n : Node). IsPut (LeftAt (IsLeftOut a.source.now n a.part.now p) a.node c.put_octet_string.new.state) (leaf_in a.ranges.now a.numbers.now a.node a.tags.now n) p a.octets.now a.state.now
    c.put_octet_string.new.octets c.put_octet_string.new.state c.put_octet_string.result) (sym k.is)
    (c.put_octet_string.ensures a.ranges.now)

pub returns-in-ObjectIdentifier : goal.returns-in-ObjectIdentifier
returns-in-ObjectIdentifier c =
    let a = c.args in
    let k = c.in-ObjectIdentifier in
    let p = piece_in a.ranges.now a.source.now a.part.now in
    subst
    (λ (n : Node). IsPut (LeftAt (IsLeftOut a.source.now n a.part.now p) a.node c.put_kept.new.state) (leaf_in a.ranges.now a.numbers.now a.node a.tags.now n) p a.octets.now a.state.now
    c.put_kept.new.octets c.put_kept.new.state c.put_kept.result) (sym k.is)
    (c.put_kept.ensures a.ranges.now)
