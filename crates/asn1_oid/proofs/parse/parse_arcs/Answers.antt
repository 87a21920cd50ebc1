use Rattle.std.proofs.Common.{◌≡◌, ◌+◌, Some, None, length, take, min, true, false, sym, subst, ◌∙◌, arith}
use Rattle.asn1_oid.specs.Arcs.{IsValidArcs}
use Rattle.std.proofs.Math.ListN.{set}
use Rattle.asn1_oid.proofs.ParseLemmas.{Reads, reads_more, no_number, all_read, none_valid, part_few}
use Rattle.asn1_oid.proofs.parse.parse_arcs.Goals as goal

pub returns-in_default-number_of-clause-none : goal.returns-in_default-number_of-clause-none
returns-in_default-number_of-clause-none c =
    let inv : Reads c.args.text.now (Some c.in-Some.here) c.loop-left.count c.loop-left.front c.loop-left.room
    c.args.room.now =
    subst (λ o. Reads c.args.text.now o c.loop-left.count c.loop-left.front c.loop-left.room c.args.room.now)
    c.in-Some.is c.loop-left.invariant in
    no_number c.args.text.now c.in-Some.here c.first_part.result.1 c.first_part.result.0.now c.loop-left.count
    c.loop-left.front c.loop-left.room c.args.room.now
    inv c.first_part.ensures.parts c.in_default-number_of.ensures.none

pub loop-left-preserved : goal.loop-left-preserved
loop-left-preserved c =
    let inv : Reads c.args.text.now (Some c.in-Some.here) c.loop-left.count c.loop-left.front c.loop-left.room
    c.args.room.now =
    subst (λ o. Reads c.args.text.now o c.loop-left.count c.loop-left.front c.loop-left.room c.args.room.now)
    c.in-Some.is c.loop-left.invariant in
    let few =
    part_few (length c.first_part.result.0.now) (length c.in-Some.here.now) c.first_part.result.1
    c.first_part.ensures.shorter c.first_part.ensures.all in
    let more =
    reads_more c.args.text.now c.in-Some.here c.first_part.result.1 c.first_part.result.0.now c.loop-left.count
    c.in-Some-number_of.number c.loop-left.front c.loop-left.room c.args.room.now
    inv c.first_part.ensures.parts c.in-Some-number_of.ensures.some.0 c.in-Some-number_of.ensures.some.1 few in
    subst (λ f. Reads c.args.text.now c.first_part.result.1 (c.loop-left.count + 1) f c.store-in-Some.new.room
    c.args.room.now) (sym c.store.ensures)
    (subst (λ r. Reads c.args.text.now c.first_part.result.1 (c.loop-left.count + 1)
    (set c.loop-left.front c.loop-left.count c.in-Some-number_of.number) r c.args.room.now)
    (sym c.store-in-Some.ensures) more)

false_is_not_true : false ≡ true → ⊥
false_is_not_true e = cc

pub returns-then-not-is_valid-clause-none : goal.returns-then-not-is_valid-clause-none
returns-then-not-is_valid-clause-none c =
    let inv : Reads c.args.text.now None c.loop-left.count c.loop-left.front c.loop-left.room c.args.room.now =
    subst (λ o. Reads c.args.text.now o c.loop-left.count c.loop-left.front c.loop-left.room c.args.room.now)
    c.in_default.is c.loop-left.invariant in
    let no_front : ¬ (IsValidArcs (take (min c.loop-left.count 2) c.loop-left.front)) = λ v. false_is_not_true
    (sym c.if-not-is_valid.true ∙ c.is_valid.ensures.1
    (subst (λ k. IsValidArcs (take k c.loop-left.front)) (sym c.min.ensures) v)) in
    none_valid c.args.text.now c.loop-left.count c.loop-left.front c.loop-left.room c.args.room.now inv no_front

pub returns-clause-some : goal.returns-clause-some
returns-clause-some c =
    let inv : Reads c.args.text.now None c.loop-left.count c.loop-left.front c.loop-left.room c.args.room.now =
    subst (λ o. Reads c.args.text.now o c.loop-left.count c.loop-left.front c.loop-left.room c.args.room.now)
    c.in_default.is c.loop-left.invariant in
    let front : IsValidArcs (take (min c.loop-left.count 2) c.loop-left.front) =
    subst (λ k. IsValidArcs (take k c.loop-left.front)) c.min.ensures
    (c.is_valid.ensures.0 c.if-not-is_valid.false) in (
      inv.done,
      all_read c.args.text.now c.loop-left.count c.loop-left.front c.loop-left.room c.args.room.now inv front,
      inv.counted,
      inv.written,
    )

pub returns-clause-most : goal.returns-clause-most
returns-clause-most c =
    let inv : Reads c.args.text.now None c.loop-left.count c.loop-left.front c.loop-left.room c.args.room.now =
    subst (λ o. Reads c.args.text.now o c.loop-left.count c.loop-left.front c.loop-left.room c.args.room.now)
    c.in_default.is c.loop-left.invariant in
    omega (arith, inv.few)
