use Rattle.std.proofs.Common.{◌≡◌, ◌≤◌, ◌<◌, ◌^◌, ◌*◌, ◌+◌, ◌-◌, ℕ, List, Bool, length, take, drop, sym, ◌∙◌, ap, subst, arith}
use Rattle.std.specs.List.{AllByRecursion}
use Rattle.std.proofs.lemmas.List.{length-drop, length-take-le, drop-drop}
use Rattle.std.proofs.Math.Nat.{mul-add, mul-le-mul_right}
use Rattle.asn1_bits.specs.Bits.{bits}
use Rattle.asn1_bits.specs.Laws.DigitLaws.{length-bits}
use Rattle.asn1_bits.specs.Laws.NumberLaws.{number-below}
use Rattle.asn1_schema.specs.CharactersOfParts.{numbers_in}
use Rattle.asn1_x691_fields.proofs.WordLemmas.{word_is, all_numbers, first_numbers}
use Rattle.asn1_x691_fields.proofs.code_words.are_in.Goals as goal

-- some of the numbers that are left, and the others
parts : (width left some : ℕ) → some ≤ left → width * left ≡ width * some + width * (left - some)
parts width left some h =
    let e : left ≡ some + (left - some) = omega (arith, h) in
    ap (λ (n : ℕ). width * n) e ∙ mul-add width some (left - some)

pub number_at-word-requires-clause-width : goal.number_at-word-requires-clause-width
number_at-word-requires-clause-width c =
    let some : c.min-some.result ≤ 8 = omega (arith, c.min-some.ensures) in
    omega (arith, mul-le-mul_right c.min-some.result c.requires.narrow, some)

pub number_at-word-requires-clause-within : goal.number_at-word-requires-clause-within
number_at-word-requires-clause-within c =
    omega (
      arith,
      parts c.args.width c.loop-left.left c.min-some.result (omega (arith, c.min-some.ensures)),
      c.loop-left.invariant.index,
      c.requires.inside,
    )

pub overflow_add-next : goal.overflow_add-next
overflow_add-next c =
    omega (
      arith,
      parts c.args.width c.loop-left.left c.min-some.result (omega (arith, c.min-some.ensures)),
      c.loop-left.invariant.index,
      c.requires.inside,
      c.requires.size,
    )

pub are_in_lanes-requires-clause-below : goal.are_in_lanes-requires-clause-below
are_in_lanes-requires-clause-below c =
    let some = c.args.width * c.min-some.result in
    let list = drop c.loop-left.next (bits c.args.octets.now) in
    let within = parts c.args.width c.loop-left.left c.min-some.result (omega (arith, c.min-some.ensures)) in
    let size : some ≤ length list = omega (
      arith,
      within,
      c.loop-left.invariant.index,
      c.requires.inside,
      length-bits c.args.octets.now,
      length-drop c.loop-left.next (bits c.args.octets.now),
    ) in
    subst (λ (n : ℕ). n < 2 ^ some) (sym c.number_at-word.ensures) (number-below (take some list) some (omega (arith, length-take-le some list size)))

pub returns-then-not-are_in_lanes : goal.returns-then-not-are_in_lanes
returns-then-not-are_in_lanes c =
    let l = c.loop-left in
    let w = c.args.width in
    let some = c.min-some.result in
    let list = bits c.args.octets.now in
    let P = λ (n : ℕ). (c.args.interval.least ≤ n) × (n ≤ c.args.interval.least + c.args.interval.range) in
    let within : l.next + w * some ≤ length list =
    omega (arith, parts w l.left some (omega (arith, c.min-some.ensures)), l.invariant.index, c.requires.inside, length-bits c.args.octets.now) in
    let e : l.left ≡ some + (l.left - some) = omega (arith, c.min-some.ensures) in
    let same = word_is w some l.next c.number_at-word.result list within c.number_at-word.ensures in (
      λ bad. absurd (cc bad),
      λ p. absurd (
          let all = subst (λ (n : ℕ). AllByRecursion P (numbers_in w n (drop l.next list))) e (l.invariant.not_before p) in
          let first = (first_numbers P w some (l.left - some) (drop l.next list) all).0 in
          let is = c.are_in_lanes.ensures.1 (subst (λ (ns : List ℕ). AllByRecursion P ns) (sym same) first) in
          cc (is, c.if-not-are_in_lanes.true)),
    )

pub loop-left-preserved : goal.loop-left-preserved
loop-left-preserved c =
    let l = c.loop-left in
    let w = c.args.width in
    let some = c.min-some.result in
    let list = bits c.args.octets.now in
    let P = λ (n : ℕ). (c.args.interval.least ≤ n) × (n ≤ c.args.interval.least + c.args.interval.range) in
    let few = parts w l.left some (omega (arith, c.min-some.ensures)) in
    let within : l.next + w * some ≤ length list = omega (arith, few, l.invariant.index, c.requires.inside, length-bits c.args.octets.now) in
    let e : l.left ≡ some + (l.left - some) = omega (arith, c.min-some.ensures) in
    let same = word_is w some l.next c.number_at-word.result list within c.number_at-word.ensures in
    let first = subst (λ (ns : List ℕ). AllByRecursion P ns) same (c.are_in_lanes.ensures.0 c.if-not-are_in_lanes.false) in
    let at : drop (l.next + w * some) list ≡ drop (w * some) (drop l.next list) = sym (drop-drop (w * some) l.next list) in
    record {
      index = omega (arith, few, l.invariant.index);
      others = λ p. l.invariant.others (subst (λ (n : ℕ). AllByRecursion P (numbers_in w n (drop l.next list))) (sym e)
          (all_numbers P w some (l.left - some) (drop l.next list) first
          (subst (λ (l' : List Bool). AllByRecursion P (numbers_in w (l.left - some) l')) at p)));
      not_before = λ p. subst (λ (l' : List Bool). AllByRecursion P (numbers_in w (l.left - some) l')) (sym at)
          (first_numbers P w some (l.left - some) (drop l.next list)
          (subst (λ (n : ℕ). AllByRecursion P (numbers_in w n (drop l.next list))) e (l.invariant.not_before p))).1;
    }
