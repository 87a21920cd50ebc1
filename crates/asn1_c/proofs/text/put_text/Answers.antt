use Rattle.std.proofs.Common.{◌≡◌, ◌++◌, ◌∷◌, ◌+◌, ◌∙◌, ◌≤◌, ℕ, List, [], ap, sym, length, get_or, take, drop, arith, append-nil, take_all}
use Rattle.std.specs.Fmt.{decimal}
use Rattle.asn1_oid.specs.Arcs.{full_stop}
use Rattle.asn1_c.proofs.TextLemmas.{dotted_from, joined, length-dotted_more, dotted_more, dotted_front, put_behind}
use Rattle.asn1_c.proofs.text.put_text.Goals as goal

pub put_at-at-requires : goal.put_at-at-requires
put_at-at-requires c =
    let is : c.digits.result.now ≡ decimal c.args.first = c.digits.ensures ∙ c.of.ensures.digits in
    let front : _ = dotted_front c.args.first c.args.others.now 0 in
    omega (
      arith,
      ap length is,
      ap length (append-nil (decimal c.args.first)),
      front,
      ap length
          (joined c.args.first c.args.others.now),
      c.requires,
    )

pub loop-arc-init : goal.loop-arc-init
loop-arc-init c =
    let is : c.digits.result.now ≡ decimal c.args.first = c.digits.ensures ∙ c.of.ensures.digits in
    record {
      written = c.put_at-at.ensures.put
          ∙ ap (λ t. t ++ drop (0 + length c.digits.result.now) c.args.room.now)
          (is ∙ sym (append-nil (decimal c.args.first)))
          ∙ ap (λ k. dotted_from c.args.first [] ++ drop k c.args.room.now) (sym c.put_at-at.ensures.place);
      place = omega (arith, c.put_at-at.ensures.place, ap length (is ∙ sym (append-nil (decimal c.args.first))));
    }

pub put_at-at-requires-in-loop-arc : goal.put_at-at-requires-in-loop-arc
put_at-at-requires-in-loop-arc c =
    let inv = c.loop-arc.invariant in
    let i : ℕ = c.loop-arc.arc-index in
    let is : c.with_stop.result.now ≡ full_stop ∷ decimal (get_or c.args.others.now i 0) = c.with_stop.ensures
    ∙ c.of-in-loop-arc.ensures.text in
    let more = length-dotted_more c.args.first c.args.others.now i 0 c.loop-arc-test.true in
    let front = dotted_front c.args.first c.args.others.now (i + 1) in
    omega (
      arith,
      inv.place,
      ap length is,
      more,
      front,
      ap length (joined c.args.first c.args.others.now),
      c.requires,
      c.loop-arc.auto.room,
      c.put_at-at.auto.room,
    )

pub loop-arc-preserved : goal.loop-arc-preserved
loop-arc-preserved c =
    let inv = c.loop-arc.invariant in
    let i : ℕ = c.loop-arc.arc-index in
    let others : List ℕ = c.args.others.now in
    let front : List ℕ = dotted_from c.args.first (take i others) in
    let part : List ℕ = c.with_stop.result.now in
    let is : part ≡ full_stop ∷ decimal (get_or others i 0) = c.with_stop.ensures ∙ c.of-in-loop-arc.ensures.text in
    let more = length-dotted_more c.args.first others i 0 c.loop-arc-test.true in
    let whole = dotted_front c.args.first others (i + 1) in
    let fits : c.loop-arc.at + length part ≤ length c.args.room.now =
    omega (
      arith,
      inv.place,
      ap length is,
      more,
      whole,
      ap length (joined c.args.first c.args.others.now),
      c.requires,
    ) in
    let now : front ++ part ≡ dotted_from c.args.first (take (i + 1) others) = ap (λ t. front ++ t) is
    ∙ sym (dotted_more c.args.first others i 0 c.loop-arc-test.true) in
    record {
      written = c.put_at-at-in-loop-arc.ensures.put
          ∙ ap (λ r. take c.loop-arc.at r ++ (part ++ drop (c.loop-arc.at + length part) r)) inv.written
          ∙ put_behind front part c.args.room.now c.loop-arc.at inv.place fits
          ∙ ap (λ t. t ++ drop (c.loop-arc.at + length part) c.args.room.now) now
          ∙ ap (λ k. dotted_from c.args.first (take (i + 1) others) ++ drop k c.args.room.now)
          (sym c.put_at-at-in-loop-arc.ensures.place);
      place = omega (arith, c.put_at-at-in-loop-arc.ensures.place, inv.place, ap length is, more);
    }

pub returns : goal.returns
returns c =
    let inv = c.loop-arc.invariant in
    let all : take c.loop-arc.arc-index c.args.others.now ≡ c.args.others.now = take_all _ _ c.loop-arc-test.false in
    inv.written
    ∙ ap (λ k. dotted_from c.args.first (take c.loop-arc.arc-index c.args.others.now) ++ drop k c.args.room.now)
    inv.place
    ∙ ap (λ l. dotted_from c.args.first l ++ drop (length (dotted_from c.args.first l)) c.args.room.now) all
    ∙ ap (λ l. l ++ drop (length l) c.args.room.now) (joined c.args.first c.args.others.now)
