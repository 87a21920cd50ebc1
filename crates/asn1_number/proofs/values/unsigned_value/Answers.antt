use Rattle.std.proofs.Common.{rules, arith, ◌≡◌, ◌+◌, ◌*◌, sym, ap, ◌∙◌, get_or, take}
use Rattle.asn1_number.specs.Octets.{unsigned}
use Rattle.asn1_number.specs.Laws.OctetLaws.{unsigned_nil}
use Rattle.asn1_number.specs.Laws.WidthLaws.{unsigned_more, unsigned_room}
use Rattle.asn1_number.proofs.values.unsigned_value.Goals as goal

pub loop-octet-init : goal.loop-octet-init
loop-octet-init c = sym unsigned_nil

pub overflow_mul-value : goal.overflow_mul-value
overflow_mul-value c =
    let r =
    unsigned_room c.args.octets.now c.loop-octet.octet-index (λ i. omega (arith, c.type_inv.octets i))
    c.loop-octet-test.true c.requires in
    let e : c.loop-octet.value ≡ unsigned (take c.loop-octet.octet-index c.args.octets.now) = c.loop-octet.invariant in
    search rules

pub overflow_add-value : goal.overflow_add-value
overflow_add-value c =
    let r =
    unsigned_room c.args.octets.now c.loop-octet.octet-index (λ i. omega (arith, c.type_inv.octets i))
    c.loop-octet-test.true c.requires in
    let e : c.loop-octet.value ≡ unsigned (take c.loop-octet.octet-index c.args.octets.now) = c.loop-octet.invariant in
    let f : c.from.result ≡ get_or c.args.octets.now c.loop-octet.octet-index 0 = c.from.ensures in
    search rules

pub loop-octet-preserved : goal.loop-octet-preserved
loop-octet-preserved c =
    let e : c.loop-octet.value ≡ unsigned (take c.loop-octet.octet-index c.args.octets.now) = c.loop-octet.invariant in
    let f : c.from.result ≡ get_or c.args.octets.now c.loop-octet.octet-index 0 = c.from.ensures in
    ap (λ x. x * 256 + c.from.result) e
    ∙ (ap (λ x. unsigned (take c.loop-octet.octet-index c.args.octets.now) * 256 + x) f
    ∙ sym (unsigned_more c.args.octets.now c.loop-octet.octet-index c.loop-octet-test.true))
