use Rattle.std.proofs.Common.{arith, ◌≡◌, ◌+◌, ◌-◌, length, drop, take, sym, ap, subst, ◌∙◌}
use Rattle.std.proofs.lemmas.Grind.{common_steps}
use Rattle.std.proofs.Math.Seq.{take_all}
use Rattle.std.proofs.lemmas.List.{drop-drop, length-drop}
use Rattle.std.proofs.lemmas.Str.{IsAscii-drop, IsUtf8-from_ascii}
use Rattle.std.specs.Str.{IsUtf8}
use Rattle.asn1_oid.specs.Arcs.{with_stops}
use Rattle.asn1_oid.proofs.DottedLemmas.{stops_are_ascii}
use Rattle.asn1_oid.proofs.dotted.group_text.Goals as goal

pub unreachable-requires : goal.unreachable-requires
unreachable-requires c =
    let arcs = c.args.arcs.now in
    let skipped = c.args.skipped in
    let start = c.put_group.result in
    let room = c.put_group.new.room in
    let long : length (drop (start + skipped) room) ≡ 88 - (start + skipped) =
    length-drop (start + skipped) room ∙ ap (λ n. n - (start + skipped)) c.put_group.array_long in
    let text : take (88 - (start + skipped)) (drop (start + skipped) room) ≡ drop skipped (with_stops arcs) =
    take_all (88 - (start + skipped)) (drop (start + skipped) room) (omega (arith, long))
    ∙ (sym (drop-drop skipped start room) ∙ ap (drop skipped) c.put_group.ensures.text) in
    c.in_default.ensures.cases.0
    (subst IsUtf8 (sym text)
    (IsUtf8-from_ascii (drop skipped (with_stops arcs))
    (IsAscii-drop (with_stops arcs) skipped (stops_are_ascii arcs (λ i. omega (arith, c.type_inv.arcs i))))))

pub returns : goal.returns
returns c = grind (arith, common_steps)
