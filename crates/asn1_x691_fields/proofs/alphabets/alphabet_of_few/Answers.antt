use Rattle.std.proofs.Common.{ℕ, ◌-◌, ◌^◌, ◌∙◌, ap}
use Rattle.asn1_characters.specs.Widths.{width_for}
use Rattle.asn1_x691.specs.Alphabets.{are_within}
use Rattle.asn1_x691_fields.proofs.AlphabetLemmas.{within_end}
use Rattle.asn1_x691_fields.proofs.alphabets.alphabet_of_few.Goals as goal

pub returns-clause-is : goal.returns-clause-is
returns-clause-is c =
    let sums = c.sums_of-sums.ensures in
    let w = c.width_of_few-width.result in
    let ranges = c.args.ranges.now in
    let width = c.width_of_few-width.ensures.value ∙ ap (λ (n : ℕ). width_for c.args.is_aligned n) sums.count in
    record {
      width = width;
      narrow = c.width_of_few-width.ensures.most;
      small = sums.small;
      count = sums.count;
      ascending = sums.ascending;
      numbers = within_end ranges w c.sums_of-sums.result.end c.fits.result sums.end c.fits.ensures.yes c.fits.ensures.no
          ∙ ap (λ (n : ℕ). are_within ranges (2 ^ n - 1)) width;
    }
