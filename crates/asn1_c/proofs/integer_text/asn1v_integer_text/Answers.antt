use Rattle.std.proofs.Common.{◌≡◌, ◌∙◌, ⊎_elim, ap, sym, subst, refl, length, take, to_z, of_z, ◌<◌, ◌*◌, ◌+◌, ◌/◌, ℕ, ℤ, pos, List, arith, rules}
use Rattle.std.proofs.lemmas.List.{length-take-le}
use Rattle.std.specs.Int.{w128}
use Rattle.asn1_number.specs.Octets.{IsOctets, IsShortest, signed}
use Rattle.asn1_number.specs.Laws.OctetLaws.{shortest_once}
use Rattle.asn1_number.specs.Readings.{IsInRange, kind_u128}
use Rattle.asn1_c.specs.Text.{IsWide, IsDecimalText}
use Rattle.asn1_c.proofs.WideLemmas.{past_i128}
use Rattle.asn1_c.proofs.DecimalLemmas.{wide_cases}
use Rattle.asn1_c.proofs.DecimalDigitLemmas.{octets_by_place}
use Rattle.asn1_c.proofs.DecimalTextLemmas.{length_of_text, wide_of_i128, wide_of_u128, told_text, told_length, told_most}
use Rattle.asn1_c.proofs.integer_text.asn1v_integer_text.Goals as goal

pub returns-then-shortest-le16-clause-written : goal.returns-then-shortest-le16-clause-written
returns-then-shortest-le16-clause-written c = λ done.
    let some : 0 < length c.args.octets.now = search rules in
    let v : ℤ = c.signed_value.result in
    let back : to_z w128 (of_z w128 v) ≡ v = search rules in
    let s = c.without_redundant_sign_octets-shortest.ensures.shortest some in
    let e = c.signed_value.ensures ∙ s.value in
    told_text (signed c.args.octets.now) (to_z w128 (of_z w128 v)) (take c.put_text.new.count c.put_text.new.room)
    (subst IsWide e (wide_of_i128 v c.signed_value.type_inv)) (back ∙ e) (c.put_text.ensures.written done)

pub returns-then-shortest-le16-clause-count : goal.returns-then-shortest-le16-clause-count
returns-then-shortest-le16-clause-count c = λ _ w text h.
    let some : 0 < length c.args.octets.now = search rules in
    let v : ℤ = c.signed_value.result in
    let back : to_z w128 (of_z w128 v) ≡ v = search rules in
    let s = c.without_redundant_sign_octets-shortest.ensures.shortest some in
    told_length (signed c.args.octets.now) (to_z w128 (of_z w128 v)) c.put_text.new.count text w
    (back ∙ c.signed_value.ensures ∙ s.value) c.put_text.ensures.count h

pub returns-then-shortest-le16-clause-most : goal.returns-then-shortest-le16-clause-most
returns-then-shortest-le16-clause-most c = λ _.
    let some : 0 < length c.args.octets.now = search rules in
    let v : ℤ = c.signed_value.result in
    let back : to_z w128 (of_z w128 v) ≡ v = search rules in
    let s = c.without_redundant_sign_octets-shortest.ensures.shortest some in
    let e = c.signed_value.ensures ∙ s.value in
    told_most (signed c.args.octets.now) (to_z w128 (of_z w128 v)) c.put_text.new.count c.args.octets.now
    (subst IsWide e (wide_of_i128 v c.signed_value.type_inv)) (back ∙ e) c.put_text.ensures.count
    (octets_by_place c.args.octets.now (λ i. (c.type_inv.octets i).fits)) some refl

pub returns-then-shortest-le16-clause-sufficient : goal.returns-then-shortest-le16-clause-sufficient
returns-then-shortest-le16-clause-sufficient c = λ _ text h.
    let some : 0 < length c.args.octets.now = search rules in
    let v : ℤ = c.signed_value.result in
    let back : to_z w128 (of_z w128 v) ≡ v = search rules in
    let s = c.without_redundant_sign_octets-shortest.ensures.shortest some in
    let e = c.signed_value.ensures ∙ s.value in
    let same = told_length (signed c.args.octets.now) (to_z w128 (of_z w128 v)) c.put_text.new.count text
    (subst IsWide e (wide_of_i128 v c.signed_value.type_inv)) (back ∙ e) c.put_text.ensures.count h in
    omega arith

pub returns-then-shortest-le16-clause-done : goal.returns-then-shortest-le16-clause-done
returns-then-shortest-le16-clause-done c = λ _ room.
    let some : 0 < length c.args.octets.now = search rules in
    let v : ℤ = c.signed_value.result in
    let back : to_z w128 (of_z w128 v) ≡ v = search rules in
    let s = c.without_redundant_sign_octets-shortest.ensures.shortest some in
    let e = c.signed_value.ensures ∙ s.value in
    let most = told_most (signed c.args.octets.now) (to_z w128 (of_z w128 v)) c.put_text.new.count c.args.octets.now
    (subst IsWide e (wide_of_i128 v c.signed_value.type_inv)) (back ∙ e) c.put_text.ensures.count
    (octets_by_place c.args.octets.now (λ i. (c.type_inv.octets i).fits)) some refl in
    c.put_text.ensures.done.1 (omega arith)

pub returns-in-Some-clause-written : goal.returns-in-Some-clause-written
returns-in-Some-clause-written c = λ done.
    let some : 0 < length c.args.octets.now = search rules in
    let s = c.without_redundant_sign_octets-shortest.ensures.shortest some in
    let e = c.in-Some.ensures.0 ∙ s.value in
    told_text (signed c.args.octets.now) (pos c.in-Some.number)
    (take c.put_text-in-Some.new.count c.put_text-in-Some.new.room)
    (subst IsWide s.value (wide_of_u128 _ c.in-Some.ensures.1)) e
    (c.put_text-in-Some.ensures.written done)

pub returns-in-Some-clause-count : goal.returns-in-Some-clause-count
returns-in-Some-clause-count c = λ _ w text h.
    let some : 0 < length c.args.octets.now = search rules in
    let s = c.without_redundant_sign_octets-shortest.ensures.shortest some in
    told_length (signed c.args.octets.now) (pos c.in-Some.number) c.put_text-in-Some.new.count text w
    (c.in-Some.ensures.0 ∙ s.value) c.put_text-in-Some.ensures.count h

pub returns-in-Some-clause-sufficient : goal.returns-in-Some-clause-sufficient
returns-in-Some-clause-sufficient c = λ _ text h.
    let some : 0 < length c.args.octets.now = search rules in
    let s = c.without_redundant_sign_octets-shortest.ensures.shortest some in
    let e = c.in-Some.ensures.0 ∙ s.value in
    let same = told_length (signed c.args.octets.now) (pos c.in-Some.number) c.put_text-in-Some.new.count text
    (subst IsWide s.value (wide_of_u128 _ c.in-Some.ensures.1)) e
    c.put_text-in-Some.ensures.count h in
    omega arith

wide_is : (z : ℤ) (o : List ℕ) → IsWide z → IsShortest z o → 16 < length o → IsInRange kind_u128 z
wide_is z o w s more = ⊎_elim (λ r. absurd (past_i128 z o s more r)) (λ r. r) (wide_cases z w)

pub returns-in-None-clause-count : goal.returns-in-None-clause-count
returns-in-None-clause-count c = λ _ w.
    let some : 0 < length c.args.octets.now = search rules in
    let s = c.without_redundant_sign_octets-shortest.ensures.shortest some in
    absurd (c.in-None.ensures (subst (IsInRange kind_u128) (sym s.value) (wide_is _ _ w s c.if-shortest-le16.false)))

pub returns-in-None-clause-wide_most : goal.returns-in-None-clause-wide_most
returns-in-None-clause-wide_most c = λ _ w.
    let some : 0 < length c.args.octets.now = search rules in
    let s = c.without_redundant_sign_octets-shortest.ensures.shortest some in
    absurd (c.in-None.ensures (subst (IsInRange kind_u128) (sym s.value) (wide_is _ _ w s c.if-shortest-le16.false)))

pub returns-in-None-clause-needed : goal.returns-in-None-clause-needed
returns-in-None-clause-needed c = λ three _ o short.
    let some : 0 < length c.args.octets.now = search rules in
    let s = c.without_redundant_sign_octets-shortest.ensures.shortest some in
    c.put_long.ensures.count three
    ∙ ap (λ l. 5 * length l / 2 + 2) (shortest_once (signed c.args.octets.now) _ o s short)

pub returns-in-None-clause-most : goal.returns-in-None-clause-most
returns-in-None-clause-most c = λ either.
    let some : 0 < length c.args.octets.now = search rules in
    let s = c.without_redundant_sign_octets-shortest.ensures.shortest some in
    let octets : IsOctets c.args.octets.now = octets_by_place c.args.octets.now (λ i. (c.type_inv.octets i).fits) in
    let fewer = s.least c.args.octets.now octets some refl in
    let l = c.put_long in
    ⊎_elim
    (λ (done : l.result ≡ 0).
    let text = subst (λ (z : ℤ). IsDecimalText z (take l.new.count l.new.room)) s.value (l.ensures.written done) in
    let most = length_of_text c.args.octets.now (take l.new.count l.new.room) octets some text in
    let within = l.ensures.enough done in
    let len = length-take-le l.new.count l.new.room (omega (arith, l.auto.room)) in
    omega arith)
    (λ (three : l.result ≡ 3). let count = l.ensures.count three in omega arith)
    either

pub returns-in-None-clause-sufficient : goal.returns-in-None-clause-sufficient
returns-in-None-clause-sufficient c = λ three text h.
    let some : 0 < length c.args.octets.now = search rules in
    let s = c.without_redundant_sign_octets-shortest.ensures.shortest some in
    let t = subst (λ (z : ℤ). IsDecimalText z text) (sym s.value) h in
    let len = length_of_text _ text s.octets s.some t in
    let count = c.put_long.ensures.count three in
    omega arith
