use Rattle.std.proofs.Common.{ℕ, ◌≡◌, subst, sym, ap, ◌∙◌}
use Rattle.asn1_schema.specs.CharactersOfParts.{characters_below}
use Rattle.asn1_x691.specs.Alphabets.{IsIn}
use Rattle.asn1_x691_fields.proofs.AlphabetLemmas.{index_in, no_other}
use Rattle.asn1_x691_fields.proofs.alphabets.has_index.Goals as goal

pub returns-then-count_below-index-clause-yes : goal.returns-then-count_below-index-clause-yes
returns-then-count_below-index-clause-yes c e =
    let ranges = c.args.ranges.now in
    let found = c.first_past-character.result in
    let is : characters_below ranges found ≡ c.args.index = sym c.count_below.ensures ∙ c.if-count_below-index.true in
    index_in ranges c.args.index found (c.is_in.ensures.yes e) is

pub returns-then-count_below-index-clause-no : goal.returns-then-count_below-index-clause-no
returns-then-count_below-index-clause-no c e d p q =
    let ranges = c.args.ranges.now in
    let found = c.first_past-character.result in
    c.is_in.ensures.no e (subst (λ (n : ℕ). IsIn ranges n)
    (no_other ranges c.args.index found d c.first_past-character.ensures.below c.first_past-character.ensures.past p q) p)

pub returns-else-count_below-index-clause-no : goal.returns-else-count_below-index-clause-no
returns-else-count_below-index-clause-no c e d p q =
    let ranges = c.args.ranges.now in
    let found = c.first_past-character.result in
    let same : d ≡ found = no_other ranges c.args.index found d c.first_past-character.ensures.below
    c.first_past-character.ensures.past p q in
    let is : c.count_below.result ≡ c.args.index = c.count_below.ensures ∙ ap (characters_below ranges) (sym same) ∙ q in
    c.if-count_below-index.false is
