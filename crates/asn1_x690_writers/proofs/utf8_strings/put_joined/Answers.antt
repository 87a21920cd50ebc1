use Rattle.std.proofs.Common.{List, Bool, length, refl, sym, ap, subst, arith}
use Rattle.asn1_bits.specs.Bits.{bits}
use Rattle.asn1_bits.specs.Laws.DigitLaws.{length-bits}
use Rattle.asn1_schema.specs.declared.misfit.MisfitKind.TheVariants.{NoEncoding}
use Rattle.asn1_schema.specs.Pieces.{Octets}
use Rattle.asn1_schema.specs.PiecesOfParts.{joined}
use Rattle.asn1_x690.specs.Der.{always}
use Rattle.asn1_x690.specs.Leaves.{IsKept, IsUtf8Text, leaf_of}
use Rattle.asn1_x690_writers.specs.Put.{AreTooMany, LeftAt}
use Rattle.asn1_x690_writers.specs.PutSteps.{leaf_none, rejected}
use Rattle.asn1_x690_writers.proofs.utf8_strings.put_joined.Goals as goal

pub returns-then-count-gt0 : goal.returns-then-count-gt0
returns-then-count-gt0 c =
    let a = c.args in
    let list = joined 8 (bits a.source.now) a.fragments in
    let k = c.reject in
    rejected (LeftAt (AreTooMany (Octets list)) a.node k.new.state) (leaf_of (IsKept IsUtf8Text) (always {X = List Bool}) Octets a.node) (Octets list)
    a.octets.now a.state.now k.new.state k.result a.node NoEncoding k.ensures.result k.ensures.at k.ensures.next k.ensures.node k.ensures.reason
    (leaf_none (IsKept IsUtf8Text) (always {X = List Bool}) Octets a.node (Octets list) list refl
    (λ l kept permitted.
    let t = kept.1 in
    omega (arith, ap length kept.0, ap length t.2, length-bits t.0, c.size_of_fragments-count.ensures, c.if-count-gt0.true)))

pub returns-then-not-are_utf8 : goal.returns-then-not-are_utf8
returns-then-not-are_utf8 c =
    let a = c.args in
    let list = joined 8 (bits a.source.now) a.fragments in
    let k = c.reject-then-not-are_utf8 in
    rejected (LeftAt (AreTooMany (Octets list)) a.node k.new.state) (leaf_of (IsKept IsUtf8Text) (always {X = List Bool}) Octets a.node) (Octets list)
    a.octets.now a.state.now k.new.state k.result a.node NoEncoding k.ensures.result k.ensures.at k.ensures.next k.ensures.node k.ensures.reason
    (leaf_none (IsKept IsUtf8Text) (always {X = List Bool}) Octets a.node (Octets list) list refl
    (λ l kept permitted. c.are_utf8.ensures.no c.if-not-are_utf8.true (subst IsUtf8Text (sym kept.0) kept.1)))
