use Rattle.std.proofs.Common.{◌≡◌, ℕ, ◌-◌, ◌*◌, ◌%◌, ◌^◌, ◌<◌, ◌≤◌, false, sym, ◌∙◌, ap, subst, true, arith}
use Rattle.std.proofs.lemmas.Nat.{one_shl}
use Rattle.asn1_characters.specs.Widths.{width_for, ceil_log2}
use Rattle.asn1_x691.specs.Fields.{width_to}
use Rattle.asn1_x691.specs.Alphabets.{are_within}
use Rattle.asn1_x691_fields.proofs.AlphabetLemmas.{within_end, width_of_many, width_is_ceil}
use Rattle.asn1_x691_fields.proofs.NumberLemmas.{narrow_width}
use Rattle.asn1_x691_fields.proofs.alphabets.narrow_alphabet.Goals as goal

from_one : (w n : ℕ) → 2 ≤ n → n ≤ 128 → w ≡ width_to (n - 1) → (1 ≤ w) × (w ≤ 7)
from_one w n some few e =
    subst (λ (k : ℕ). (1 ≤ k) × (k ≤ 7)) (sym e) (narrow_width (n - 1) (omega (arith, some)) (omega (arith, few)))

pub overflow_shl-width : goal.overflow_shl-width
overflow_shl-width c =
    let is = from_one c.width_to_many-width.result c.in_ok-sums.sums.count c.if-sums-lt2.false c.if-sums-gt128.false c.width_to_many-width.ensures.value in
    omega (arith, is.1)

pub returns-clause-some : goal.returns-clause-some
returns-clause-some c =
    (from_one c.width_to_many-width.result c.in_ok-sums.sums.count c.if-sums-lt2.false c.if-sums-gt128.false c.width_to_many-width.ensures.value).0

pub returns-clause-narrow : goal.returns-clause-narrow
returns-clause-narrow c =
    (from_one c.width_to_many-width.result c.in_ok-sums.sums.count c.if-sums-lt2.false c.if-sums-gt128.false c.width_to_many-width.ensures.value).1

pub returns-clause-is : goal.returns-clause-is
returns-clause-is c =
    let sums = c.in_ok-sums.ensures in
    let w = c.width_to_many-width.result in
    let n = c.in_ok-sums.sums.count in
    let end = c.in_ok-sums.sums.end in
    let ranges = c.args.ranges.now in
    let some : 1 < n = omega (arith, c.if-sums-lt2.false) in
    let few = (from_one w n c.if-sums-lt2.false c.if-sums-gt128.false c.width_to_many-width.ensures.value).1 in
    let power : 1 * 2 ^ w % 2 ^ 64 ≡ 2 ^ w = one_shl w 64 (omega (arith, few)) in
    let is : w ≡ ceil_log2 n = width_is_ceil n w some c.width_to_many-width.ensures.value in
    let width = is ∙ sym (width_of_many false n some) ∙ ap (λ (k : ℕ). width_for false k) sums.count in
    record {
      width = width;
      narrow = omega (arith, few);
      small = sums.small;
      count = sums.count;
      ascending = λ e. sums.ascending;
      numbers = within_end ranges w end false sums.end (λ e. absurd (let bad : true ≡ false = sym e in cc))
          (λ e. omega (arith, c.if-sums-width.false, power))
          ∙ ap (λ (k : ℕ). are_within ranges (2 ^ k - 1)) width;
    }
