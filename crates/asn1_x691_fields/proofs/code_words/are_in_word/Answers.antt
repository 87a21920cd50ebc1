use Rattle.std.proofs.Common.{◌≡◌, ◌≤◌, ◌<◌, ◌^◌, ◌*◌, ◌+◌, ◌-◌, ◌/◌, ◌%◌, ℕ, suc, List, ◌∷◌, sym, subst, arith}
use Rattle.std.specs.List.{AllByRecursion}
use Rattle.std.proofs.Math.Nat.{div-mul-le_self, lt-div-mul-add, mod-eq_of_lt}
use Rattle.std.proofs.lemmas.Nat.{pow_pos}
use Rattle.asn1_bits.specs.Bits.{digits}
use Rattle.asn1_schema.specs.CharactersOfParts.{numbers_in}
use Rattle.asn1_x691_fields.proofs.WordLemmas.{word_numbers}
use Rattle.asn1_x691_fields.proofs.code_words.are_in_word.Goals as goal

-- the numbers that are left: the first one, and those of the lower part
peeled : (width left word : ℕ) → 0 < left → word < 2 ^ (width * left)
    → numbers_in width left (digits word (width * left))
    ≡ word / 2 ^ (width * (left - 1)) ∷ numbers_in width (left - 1) (digits (word - word / 2 ^ (width * (left - 1)) * 2 ^ (width * (left - 1))) (width * (left - 1)))
peeled width left word some below =
    let e : suc (left - 1) ≡ left = omega arith in
    subst (λ (n : ℕ). numbers_in width n (digits word (width * n))
    ≡ word / 2 ^ (width * (left - 1)) ∷ numbers_in width (left - 1) (digits (word - word / 2 ^ (width * (left - 1)) * 2 ^ (width * (left - 1))) (width * (left - 1)))) e
    (word_numbers width (left - 1) word (subst (λ (n : ℕ). word < 2 ^ (width * n)) (sym e) below))

pub returns-then-not-is_in : goal.returns-then-not-is_in
returns-then-not-is_in c =
    let l = c.loop-left in
    let P = λ (n : ℕ). (c.args.interval.least ≤ n) × (n ≤ c.args.interval.least + c.args.interval.range) in
    let e = peeled c.args.width l.left l.word (omega (arith, c.loop-left-test.true)) l.invariant.below in (
      λ bad. absurd (cc bad),
      λ p. absurd (
          let first = (subst (λ (ns : List ℕ). AllByRecursion P ns) e (l.invariant.not_before p)).0 in
          let is = c.is_in.ensures.1 first in
          cc (is, c.if-not-is_in.true)),
    )

pub loop-left-preserved : goal.loop-left-preserved
loop-left-preserved c =
    let l = c.loop-left in
    let P = λ (n : ℕ). (c.args.interval.least ≤ n) × (n ≤ c.args.interval.least + c.args.interval.range) in
    let k = c.args.width * (l.left - 1) in
    let q = l.word / 2 ^ k in
    let e = peeled c.args.width l.left l.word (omega (arith, c.loop-left-test.true)) l.invariant.below in
    let less : q * 2 ^ k ≤ l.word = div-mul-le_self l.word (2 ^ k) in
    let exact : q * 2 ^ k % 18446744073709551616 ≡ q * 2 ^ k = mod-eq_of_lt (omega (arith, less, l.auto.word-fits)) in
    let low : l.word - q * 2 ^ k < 2 ^ k = omega (arith, lt-div-mul-add {a = l.word} {b = 2 ^ k} (pow_pos k)) in
    let is = c.is_in.ensures.0 (c.if-not-is_in.false) in
    record {
      few = omega (arith, l.invariant.few);
      below = subst (λ (n : ℕ). l.word - n < 2 ^ k) (sym exact) low;
      others = λ p. l.invariant.others (subst (λ (ns : List ℕ). AllByRecursion P ns) (sym e) (
        is,
        subst (λ (n : ℕ). AllByRecursion P (numbers_in c.args.width (l.left - 1) (digits (l.word - n) k))) exact p,
      ));
      not_before = λ p. subst (λ (n : ℕ). AllByRecursion P (numbers_in c.args.width (l.left - 1) (digits (l.word - n) k))) (sym exact)
          (subst (λ (ns : List ℕ). AllByRecursion P ns) e (l.invariant.not_before p)).1;
    }
