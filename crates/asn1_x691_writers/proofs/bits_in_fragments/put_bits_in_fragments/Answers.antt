use Rattle.std.proofs.Common.{◌≡◌, ℕ, Bool, true, false, List, length, sym, ap, ◌∙◌, subst, arith}
use Rattle.asn1_bits.specs.Bits.{bits}
use Rattle.asn1_schema.specs.Pieces.{Bits}
use Rattle.asn1_schema.specs.PiecesOfParts.{joined}
use Rattle.asn1_x691.specs.Fragments.{most_fragments}
use Rattle.asn1_x691.specs.Leaves.{bit_string}
use Rattle.asn1_x691_writers.specs.Put.{IsPut}
use Rattle.asn1_x691_writers.proofs.bits_in_fragments.put_bits_in_fragments.Goals as goal

pub overflow_cast-count : goal.overflow_cast-count
overflow_cast-count c =
    let e = c.size_of-count.ensures.size ∙ ap length c.joined_of-joined.ensures.same in
    omega (arith, e, c.requires.few)

pub returns-then-is_extensible : goal.returns-then-is_extensible
returns-then-is_extensible c =
    let a = c.args in
    let k = c.put_extensible in
    let T = λ (b : Bool). bit_string most_fragments a.is_aligned a.node a.size b a.has_names in
    subst (λ (b : Bool). IsPut a.is_aligned (T b) (Bits (joined 1 (bits a.source.now) a.fragments)) a.octets.now a.state.now k.new.octets k.new.state k.result)
    (sym c.if-is_extensible.true)
    (subst (λ (l : List Bool). IsPut a.is_aligned (T true) (Bits l) a.octets.now a.state.now k.new.octets k.new.state k.result)
    c.joined_of-joined.ensures.same k.ensures)

pub returns : goal.returns
returns c =
    let a = c.args in
    let k = c.put_of_root in
    let T = λ (b : Bool). bit_string most_fragments a.is_aligned a.node a.size b a.has_names in
    subst (λ (b : Bool). IsPut a.is_aligned (T b) (Bits (joined 1 (bits a.source.now) a.fragments)) a.octets.now a.state.now k.new.octets k.new.state k.result)
    (sym c.if-is_extensible.false)
    (subst (λ (l : List Bool). IsPut a.is_aligned (T false) (Bits l) a.octets.now a.state.now k.new.octets k.new.state k.result)
    c.joined_of-joined.ensures.same k.ensures)
