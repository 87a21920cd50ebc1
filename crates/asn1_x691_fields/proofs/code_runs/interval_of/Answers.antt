use Rattle.std.proofs.Common.{◌≡◌, ◌<◌, ◌^◌, ◌-◌, Bool, false, sym, ◌∙◌, subst, arith, inl, inr}
use Rattle.std.proofs.lemmas.Bool.{cases_lt}
use Rattle.asn1_schema.specs.CharactersOfParts.{character_at, characters_below}
use Rattle.asn1_x691.specs.Alphabets.{HasCode, width_of, are_within, code_by}
use Rattle.asn1_x691_fields.specs.Characters.{character_by}
use Rattle.asn1_x691_fields.proofs.AlphabetLemmas.{index_of_ascending, no_index}
use Rattle.asn1_x691_fields.proofs.code_runs.interval_of.Goals as goal

pub returns-clause-codes : goal.returns-clause-codes
returns-clause-codes c i low high =
    let a = c.args.alphabet.now in
    let none : a.are_numbers ≡ false = c.if-alphabet.false in
    let others : are_within a.ranges.now (2 ^ width_of a.is_aligned a.ranges.now - 1) ≡ false = sym c.requires.numbers ∙ none in
    let some : i < a.count = omega (arith, high, c.if-alphabet-eq0.false) in
    let found = index_of_ascending a.ranges.now i (c.requires.ascending c.if-not-alphabet.false) (omega (arith, some, c.requires.count)) in
    subst (λ (b : Bool). HasCode a.is_aligned a.ranges.now i (character_by b a.ranges.now i)) (sym none)
    (found.0, subst (λ (b : Bool). i ≡ code_by b a.ranges.now (character_at a.ranges.now i)) (sym others) (sym found.1))

pub returns-clause-no_others : goal.returns-clause-no_others
returns-clause-no_others c i d h =
    let a = c.args.alphabet.now in
    let others : are_within a.ranges.now (2 ^ width_of a.is_aligned a.ranges.now - 1) ≡ false = sym c.requires.numbers ∙ c.if-alphabet.false in
    let index : i ≡ characters_below a.ranges.now d = subst (λ (b : Bool). i ≡ code_by b a.ranges.now d) others h.1 in
    elim (cases_lt i a.count) [
      | inl lt ↦ (omega arith, omega (arith, lt))
      | inr le ↦ absurd (no_index a.ranges.now i d (omega (arith, le, c.requires.count)) h.0 (sym index))
    ]
