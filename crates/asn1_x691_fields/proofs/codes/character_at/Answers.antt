use Rattle.std.proofs.Common.{◌≡◌, sym, arith}
use Rattle.asn1_schema.specs.Laws.CharacterLaws.{character_is}
use Rattle.asn1_x691_fields.proofs.AlphabetLemmas.{found_at, more_in}
use Rattle.asn1_x691_fields.proofs.codes.character_at.Goals as goal

pub returns-clause-value : goal.returns-clause-value
returns-clause-value c i e =
    let ranges = c.args.ranges.now in
    let character = c.in-Some.character in
    let more = more_in ranges character c.in-Some.ensures.within in
    let same : i ≡ c.args.index = omega (arith, e, c.if-index.true) in
    sym (character_is ranges i character (omega (arith, c.in-Some.ensures.index, same)) (omega (arith, c.in-Some.ensures.index, same, more)))

pub returns-2-clause-value : goal.returns-2-clause-value
returns-2-clause-value c i e =
    found_at c.args.ranges.now c.args.index i c.first_past.result c.first_past.ensures.below c.first_past.ensures.past e
