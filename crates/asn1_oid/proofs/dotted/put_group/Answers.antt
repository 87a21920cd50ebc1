use Rattle.std.proofs.Common.{rules, arith, ◌≡◌, ◌+◌, ◌-◌, ◌≤◌, ◌<◌, ◌^◌, [], ◌∷◌, ◌++◌, length, drop, get_or, set, refl, sym, ap, ◌∙◌}
use Rattle.std.proofs.lemmas.Fmt.{length-decimal-le, decimal_nonempty}
use Rattle.std.proofs.lemmas.Grind.{drop-set_at}
use Rattle.std.proofs.lemmas.List.{drop_all}
use Rattle.std.specs.Fmt.{decimal}
use Rattle.asn1_oid.specs.Arcs.{with_stops}
use Rattle.asn1_oid.proofs.DottedLemmas.{stops_from}
use Rattle.asn1_oid.proofs.dotted.put_group.Goals as goal

pub loop-behind-init : goal.loop-behind-init
loop-behind-init c =
    let room : length c.args.room.now ≡ 88 = search rules in
    let none : drop 88 c.args.room.now ≡ [] = drop_all 88 c.args.room.now (omega (arith, room)) in
    let no_arcs : drop (length c.args.arcs.now - 0) c.args.arcs.now ≡ [] =
    drop_all (length c.args.arcs.now - 0) c.args.arcs.now (omega arith) in
    record { text = none ∙ sym (ap with_stops no_arcs); within = omega arith; roomy = omega arith }

pub write_digits-start-requires : goal.write_digits-start-requires
write_digits-start-requires c =
    let small : c.from.result < 2 ^ 32 = search rules in
    let few : length (decimal c.from.result) ≤ 10 =
    length-decimal-le 10 c.from.result (omega arith) (omega (arith, small)) (omega (arith, small)) in
    let left : c.loop-behind.behind < length c.args.arcs.now = search rules in
    let room : length c.loop-behind.room ≡ 88 = search rules in
    (omega (arith, few, left, c.requires, c.loop-behind.invariant.roomy), omega (arith, room, c.loop-behind.invariant.within))

pub overflow_sub-start : goal.overflow_sub-start
overflow_sub-start c =
    let small : c.from.result < 2 ^ 32 = search rules in
    let few : length (decimal c.from.result) ≤ 10 =
    length-decimal-le 10 c.from.result (omega arith) (omega (arith, small)) (omega (arith, small)) in
    let left : c.loop-behind.behind < length c.args.arcs.now = search rules in
    omega (arith, few, left, c.requires, c.loop-behind.invariant.roomy, c.write_digits-start.ensures.start)

pub loop-behind-preserved : goal.loop-behind-preserved
loop-behind-preserved c =
    let arcs = c.args.arcs.now in
    let behind = c.loop-behind.behind in
    let place = length arcs - (behind + 1) in
    let from = c.write_digits-start.result in
    let octets = c.write_digits-start.new.buf in
    let small : c.from.result < 2 ^ 32 = search rules in
    let few : length (decimal c.from.result) ≤ 10 =
    length-decimal-le 10 c.from.result (omega arith) (omega (arith, small)) (omega (arith, small)) in
    let some : 0 < length (decimal c.from.result) = decimal_nonempty c.from.result (omega (arith, small)) in
    let left : behind < length arcs = c.loop-behind-test.true in
    let room : length octets ≡ 88 = search rules in
    let eight : length arcs ≤ 8 = c.requires in
    let ends = c.write_digits-start.ensures.start in
    let kept = c.loop-behind.invariant in
    let same_place : length arcs - 1 - behind ≡ place = omega (arith, left) in
    let arc : c.from.result ≡ get_or arcs place 0 = c.from.ensures ∙ ap (λ i. get_or arcs i 0) same_place in
    let next : length arcs - behind ≡ place + 1 = omega (arith, left) in
    let stop : drop (from - 1) (set octets (from - 1) 46) ≡ 46 ∷ drop ((from - 1) + 1) octets =
    drop-set_at octets (from - 1) (from - 1) 46 refl (omega (arith, room, ends, kept.within)) in
    let digits : drop from octets ≡ decimal c.from.result ++ with_stops (drop (place + 1) arcs) =
    c.write_digits-start.ensures.written ∙ ap (λ t. decimal c.from.result ++ t)
    (kept.text ∙ ap (λ i. with_stops (drop i arcs)) next) in
    let back : (from - 1) + 1 ≡ from = omega (arith, few, left, eight, kept.roomy, ends) in record {
      text = stop ∙ (ap (λ i. 46 ∷ drop i octets) back
          ∙ (ap (λ t. 46 ∷ t) digits ∙ stops_from arcs place (place + 1) c.from.result (omega (arith, left)) refl arc));
      within = omega (arith, some, kept.within, ends, back);
      roomy = omega (arith, few, kept.roomy, ends, back);
    }
