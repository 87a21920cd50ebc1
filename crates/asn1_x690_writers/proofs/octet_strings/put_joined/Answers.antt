use Rattle.std.proofs.Common.{◌≡◌, ◌*◌, ◌/◌, length, refl, arith}
use Rattle.asn1_bits.specs.Bits.{bits}
use Rattle.asn1_schema.specs.Pieces.{Octets}
use Rattle.asn1_schema.specs.PiecesOfParts.{joined}
use Rattle.asn1_x690.specs.Leaves.{AreOctets, AreSized}
use Rattle.asn1_x690_writers.specs.PutSteps.{leaf_put}
use Rattle.asn1_x690_writers.proofs.octet_strings.put_joined.Goals as goal

pub returns : goal.returns
returns c =
    let a = c.args in
    let list = joined 8 (bits a.source.now) a.fragments in
    let count = c.size_of_fragments-count.result in
    let n : length list ≡ 8 * (count / 8) = omega (arith, c.size_of_fragments-count.ensures, c.if-count-gt0.false) in
    leaf_put AreOctets (AreSized a.is_extensible a.size) Octets a.node (Octets list) list list a.octets.now a.state.now
    c.put_fragments-state.new.octets c.put_fragments-state.result refl (refl, (count / 8, n))
    (count / 8, n, c.has_size.ensures.yes c.if-not-has_size.false) (omega (arith, n)) c.put_fragments-state.ensures
