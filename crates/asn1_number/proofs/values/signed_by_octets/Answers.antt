use Rattle.std.proofs.Common.{rules, arith, ◌≡◌, ◌+◌, ◌-◌, ◌<◌, length, drop, take, get_or}
use Rattle.std.proofs.lemmas.Grind.{common_steps}
use Rattle.asn1_number.specs.Laws.OctetLaws.{octets_from_places}
use Rattle.asn1_number.specs.Laws.WidthLaws.{first_value, more_value, room_for_more}
use Rattle.asn1_number.proofs.values.signed_by_octets.Goals as goal

pub loop-octet-init : goal.loop-octet-init
loop-octet-init c =
    first_value c.args.octets.now c.cast_signed.result c.from-value.result
    (octets_from_places c.args.octets.now (λ i. omega (arith, c.type_inv.octets i))) c.requires.some
    c.cast_signed.ensures (search rules) c.from-value.ensures (search rules)

pub overflow_mul-value : goal.overflow_mul-value
overflow_mul-value c =
    let l : c.loop-octet.octet-index + 1 < length c.args.octets.now = grind (arith, common_steps) in
    room_for_more c.args.octets.now c.loop-octet.octet-index _
    (octets_from_places c.args.octets.now (λ i. omega (arith, c.type_inv.octets i))) l c.requires.few
    c.loop-octet.invariant

pub loop-octet-preserved : goal.loop-octet-preserved
loop-octet-preserved c =
    let e : get_or (take (length c.args.octets.now - 1) (drop 1 c.args.octets.now)) c.loop-octet.octet-index 0 ≡ get_or
    c.args.octets.now (c.loop-octet.octet-index + 1) 0 = grind (arith, common_steps) in
    let l : c.loop-octet.octet-index + 1 < length c.args.octets.now = grind (arith, common_steps) in
    more_value c.args.octets.now c.loop-octet.octet-index _ c.from.result _
    (octets_from_places c.args.octets.now (λ i. omega (arith, c.type_inv.octets i))) l c.requires.few
    c.loop-octet.invariant c.from.ensures e

pub overflow_add-value : goal.overflow_add-value
overflow_add-value c = search rules
