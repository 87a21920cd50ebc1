use Rattle.std.proofs.Common.{◌≡◌, ◌∙◌, to_z, of_z, rules, ℤ, pos, take, sym, subst, arith}
use Rattle.std.specs.Int.{w128}
use Rattle.asn1_number.specs.Octets.{IsShortest}
use Rattle.asn1_number.specs.Shortest.{shortest_octets}
use Rattle.asn1_number.specs.Laws.ShortestLaws.{shortest_octets_are}
use Rattle.asn1_c.specs.Text.{IsWide}
use Rattle.asn1_c.proofs.DecimalTextLemmas.{one_value, wide_text, octets_of_text, not_wide}
use Rattle.asn1_c.proofs.integer_text.asn1v_integer_from_text.Goals as goal

pub returns-in-Some-clause-written : goal.returns-in-Some-clause-written
returns-in-Some-clause-written c = λ done n d.
    let back : to_z w128 (of_z w128 c.in-Some.number) ≡ c.in-Some.number = search rules in
    let same = back ∙ one_value c.in-Some.number n c.args.text.now
    (wide_text c.in-Some.number c.args.text.now c.in-Some.ensures.some) d in
    subst (λ (z : ℤ). IsShortest z (take c.put_signed.new.count c.put_signed.new.room)) same
    (c.put_signed.ensures.written done)

pub returns-in-Some-clause-text : goal.returns-in-Some-clause-text
returns-in-Some-clause-text c = (
  λ e n d. let three = c.put_signed.ensures.room (λ z. omega arith) in omega arith,
  λ none. absurd (none c.in-Some.number (wide_text c.in-Some.number c.args.text.now c.in-Some.ensures.some)),
)

pub returns-in-Some-clause-count : goal.returns-in-Some-clause-count
returns-in-Some-clause-count c = λ _ n o _ d s.
    let back : to_z w128 (of_z w128 c.in-Some.number) ≡ c.in-Some.number = search rules in
    let same = back ∙ one_value c.in-Some.number n c.args.text.now
    (wide_text c.in-Some.number c.args.text.now c.in-Some.ensures.some) d in
    c.put_signed.ensures.count o (subst (λ (z : ℤ). IsShortest z o) (sym same) s)

pub returns-in-Some-clause-needed : goal.returns-in-Some-clause-needed
returns-in-Some-clause-needed c = λ _ n narrow d.
    let w = c.in-Some.ensures.some in
    absurd (narrow (subst IsWide (one_value c.in-Some.number n c.args.text.now
    (wide_text c.in-Some.number c.args.text.now w) d) w.wide))

pub returns-in-Some-clause-most : goal.returns-in-Some-clause-most
returns-in-Some-clause-most c = λ _.
    let z : ℤ = c.in-Some.number in
    let back : to_z w128 (of_z w128 z) ≡ z = search rules in
    let s = shortest_octets_are z in
    let count = c.put_signed.ensures.count (shortest_octets z)
    (subst (λ (y : ℤ). IsShortest y (shortest_octets z)) (sym back) s) in
    let most = octets_of_text z c.args.text.now (shortest_octets z)
    (wide_text z c.args.text.now c.in-Some.ensures.some) s in
    omega arith

pub returns-in-Some-clause-sufficient : goal.returns-in-Some-clause-sufficient
returns-in-Some-clause-sufficient c = λ _ n o d s.
    let back : to_z w128 (of_z w128 c.in-Some.number) ≡ c.in-Some.number = search rules in
    let same = back ∙ one_value c.in-Some.number n c.args.text.now
    (wide_text c.in-Some.number c.args.text.now c.in-Some.ensures.some) d in
    let count = c.put_signed.ensures.count o (subst (λ (z : ℤ). IsShortest z o) (sym same) s) in
    omega arith

pub returns-in-Some-clause-done : goal.returns-in-Some-clause-done
returns-in-Some-clause-done c = λ _ room.
    let z : ℤ = c.in-Some.number in
    let back : to_z w128 (of_z w128 z) ≡ z = search rules in
    let s = shortest_octets_are z in
    let count = c.put_signed.ensures.count (shortest_octets z)
    (subst (λ (y : ℤ). IsShortest y (shortest_octets z)) (sym back) s) in
    let most = octets_of_text z c.args.text.now (shortest_octets z)
    (wide_text z c.args.text.now c.in-Some.ensures.some) s in
    c.put_signed.ensures.done.1 (omega arith)

pub returns-in-Some-u128_of_text-clause-written : goal.returns-in-Some-u128_of_text-clause-written
returns-in-Some-u128_of_text-clause-written c = λ done n d.
    let z : ℤ = pos c.in-Some-u128_of_text.number in
    let same = one_value z n c.args.text.now (wide_text z c.args.text.now c.in-Some-u128_of_text.ensures.some) d in
    subst (λ (y : ℤ). IsShortest y (take c.put_unsigned.new.count c.put_unsigned.new.room)) same
    (c.put_unsigned.ensures.written done)

pub returns-in-Some-u128_of_text-clause-text : goal.returns-in-Some-u128_of_text-clause-text
returns-in-Some-u128_of_text-clause-text c =
    let z : ℤ = pos c.in-Some-u128_of_text.number in (
      λ e n d. let three = c.put_unsigned.ensures.room (λ y. omega arith) in omega arith,
      λ none. absurd (none z (wide_text z c.args.text.now c.in-Some-u128_of_text.ensures.some)),
    )

pub returns-in-Some-u128_of_text-clause-count : goal.returns-in-Some-u128_of_text-clause-count
returns-in-Some-u128_of_text-clause-count c = λ _ n o _ d s.
    let z : ℤ = pos c.in-Some-u128_of_text.number in
    let same = one_value z n c.args.text.now (wide_text z c.args.text.now c.in-Some-u128_of_text.ensures.some) d in
    c.put_unsigned.ensures.count o (subst (λ (y : ℤ). IsShortest y o) (sym same) s)

pub returns-in-Some-u128_of_text-clause-needed : goal.returns-in-Some-u128_of_text-clause-needed
returns-in-Some-u128_of_text-clause-needed c = λ _ n narrow d.
    let z : ℤ = pos c.in-Some-u128_of_text.number in
    let w = c.in-Some-u128_of_text.ensures.some in
    absurd (narrow (subst IsWide (one_value z n c.args.text.now (wide_text z c.args.text.now w) d) w.wide))

pub returns-in-Some-u128_of_text-clause-most : goal.returns-in-Some-u128_of_text-clause-most
returns-in-Some-u128_of_text-clause-most c = λ _.
    let z : ℤ = pos c.in-Some-u128_of_text.number in
    let s = shortest_octets_are z in
    let count = c.put_unsigned.ensures.count (shortest_octets z) s in
    let most = octets_of_text z c.args.text.now (shortest_octets z)
    (wide_text z c.args.text.now c.in-Some-u128_of_text.ensures.some) s in
    omega arith

pub returns-in-Some-u128_of_text-clause-sufficient : goal.returns-in-Some-u128_of_text-clause-sufficient
returns-in-Some-u128_of_text-clause-sufficient c = λ _ n o d s.
    let z : ℤ = pos c.in-Some-u128_of_text.number in
    let same = one_value z n c.args.text.now (wide_text z c.args.text.now c.in-Some-u128_of_text.ensures.some) d in
    let count = c.put_unsigned.ensures.count o (subst (λ (y : ℤ). IsShortest y o) (sym same) s) in
    omega arith

pub returns-in-Some-u128_of_text-clause-done : goal.returns-in-Some-u128_of_text-clause-done
returns-in-Some-u128_of_text-clause-done c = λ _ room.
    let z : ℤ = pos c.in-Some-u128_of_text.number in
    let s = shortest_octets_are z in
    let count = c.put_unsigned.ensures.count (shortest_octets z) s in
    let most = octets_of_text z c.args.text.now (shortest_octets z)
    (wide_text z c.args.text.now c.in-Some-u128_of_text.ensures.some) s in
    c.put_unsigned.ensures.done.1 (omega arith)

pub returns-in-None-clause-count : goal.returns-in-None-clause-count
returns-in-None-clause-count c = λ _ n o wide d.
    absurd (not_wide n c.args.text.now c.in_default.ensures.none c.in-None.ensures.none d wide)

pub returns-in-None-clause-wide_most : goal.returns-in-None-clause-wide_most
returns-in-None-clause-wide_most c = λ _ n wide d.
    absurd (not_wide n c.args.text.now c.in_default.ensures.none c.in-None.ensures.none d wide)

pub returns-in-None-clause-sufficient : goal.returns-in-None-clause-sufficient
returns-in-None-clause-sufficient c = λ three n o d s.
    let count = c.put_octets_of_text.ensures.count three in
    let most = octets_of_text n c.args.text.now o d s in
    omega arith
