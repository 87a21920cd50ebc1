use Rattle.std.proofs.Common.{◌≡◌, ℕ, ◌-◌, ◌*◌, ◌≤◌, List, Bool, true, false, length, sym, subst, inl, inr, arith}
use Rattle.asn1_bits.specs.Bits.{bits}
use Rattle.asn1_bits.specs.Laws.DigitLaws.{length-bits}
use Rattle.asn1_schema.specs.PiecesOfParts.{bits_at}
use Rattle.asn1_x691.specs.Limits.{IsOffOctet}
use Rattle.asn1_x691_fields.specs.Steps.{front_length}
use Rattle.asn1_x691_encode.specs.Sets.{IsOrdered}
use Rattle.asn1_x691_encode.proofs.set.is_ordered.Goals as goal

not_both : (b : Bool) → b ≡ false → b ≡ true → ⊥
not_both b e f = cc

size : (octets : List ℕ) (before from to : ℕ) → before ≤ from → from ≤ to → to ≤ 8 * length octets
    → length (bits_at (bits octets) before (from - before)) ≡ from - before
size octets before from to a b c = front_length (bits octets) before (from - before) (omega (arith, a, b, c, length-bits octets))

pub returns-then-is_off_octet-clause-ordered : goal.returns-then-is_off_octet-clause-ordered
returns-then-is_off_octet-clause-ordered c =
    let a = c.args in
    let k = c.leave in
    let list = bits a.octets.now in
    let xs = bits_at list a.before (a.from - a.before) in
    let width = size a.octets.now a.before a.from a.to c.requires.begins c.requires.order c.requires.inside in
    subst (λ (b : Bool). IsOrdered a.is_aligned a.node a.first xs a.from (bits_at list a.from (a.to - a.from)) k.new.state b)
    (sym k.ensures.result)
    (k.ensures.node, k.ensures.next, inl (k.ensures.reason, (c.is_off_octet.ensures xs width).0 c.if-is_off_octet.true))

pub returns-then-is_before-clause-ordered : goal.returns-then-is_before-clause-ordered
returns-then-is_before-clause-ordered c =
    let a = c.args in
    let k = c.reject in
    let list = bits a.octets.now in
    let xs = bits_at list a.before (a.from - a.before) in
    let width = size a.octets.now a.before a.from a.to c.requires.begins c.requires.order c.requires.inside in
    let on : IsOffOctet true a.is_aligned xs a.from → ⊥ =
    λ w. not_both c.is_off_octet.result c.if-is_off_octet.false ((c.is_off_octet.ensures xs width).1 w) in
    subst (λ (b : Bool). IsOrdered a.is_aligned a.node a.first xs a.from (bits_at list a.from (a.to - a.from)) k.new.state b)
    (sym k.ensures.result)
    (k.ensures.node, k.ensures.next, inr (k.ensures.reason, on, c.is_before.ensures.0 c.if-is_before.true))
