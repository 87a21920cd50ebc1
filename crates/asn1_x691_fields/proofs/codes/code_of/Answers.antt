use Rattle.std.proofs.Common.{ℕ, ◌^◌, ◌<◌, sym, ◌∙◌, subst}
use Rattle.asn1_x691.specs.Alphabets.{width_of}
use Rattle.asn1_x691_fields.proofs.AlphabetLemmas.{number_below, index_below}
use Rattle.asn1_x691_fields.proofs.codes.code_of.Goals as goal

pub returns-then-alphabet-clause-below : goal.returns-then-alphabet-clause-below
returns-then-alphabet-clause-below c =
    let a = c.args.alphabet.now in
    subst (λ (w : ℕ). c.args.character < 2 ^ w) (sym c.requires.is.width)
    (number_below a.ranges.now (width_of a.is_aligned a.ranges.now) c.args.character (sym c.requires.is.numbers ∙ c.if-alphabet.true)
    c.requires.within)

pub returns-clause-below : goal.returns-clause-below
returns-clause-below c =
    let a = c.args.alphabet.now in
    subst (λ (w : ℕ). c.count_below.result < 2 ^ w) (sym c.requires.is.width)
    (subst (λ (n : ℕ). n < 2 ^ width_of a.is_aligned a.ranges.now) (sym c.count_below.ensures)
    (index_below a.is_aligned a.ranges.now c.args.character c.requires.within))
