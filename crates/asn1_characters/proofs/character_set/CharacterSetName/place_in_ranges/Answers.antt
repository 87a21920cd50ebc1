use Rattle.std.proofs.Common.{◌≡◌, ◌+◌, ◌-◌, false, get_or, take, Some, ap, ◌∙◌, arith}
use Rattle.std.proofs.lemmas.List.{take_all}
use Rattle.std.specs.List.{slice_get, flat_map}
use Rattle.asn1_characters.specs.Sets.{characters_between}
use Rattle.asn1_characters.specs.Laws.SetLaws.{lies_in, has_in_base}
use Rattle.asn1_characters.specs.Laws.TableLaws.{counted}
use Rattle.asn1_characters.proofs.PlaceLemmas.{at_range, base_is}
use Rattle.asn1_characters.proofs.character_set.CharacterSetName.place_in_ranges.Goals as goal

pub returns-then-character-range : goal.returns-then-character-range
returns-then-character-range c =
    let rs = c.ranges-range-items.result.now in
    let i = c.loop-range.range-index in
    let j = c.args.character - (get_or rs i (0, 0)).0 in
    let here : slice_get (flat_map characters_between rs) (counted (take i rs) + j) ≡ Some ((get_or rs i (0, 0)).0 + j)
    =
    at_range rs i j (omega arith) (omega arith)
    in
    let same : (get_or rs i (0, 0)).0 + j ≡ c.args.character = omega arith in
    rw (base_is c.args.self, ← c.ranges-range-items.ensures.value, c.loop-range.invariant.1) (here ∙ ap Some same)

pub returns : goal.returns
returns c =
    let none : lies_in c.ranges-range-items.result.now c.args.character ≡ false =
    rw (take_all c.loop-range.range-index c.ranges-range-items.result.now (omega arith)) at c.loop-range.invariant.0
    in has_in_base c.args.self c.args.character ∙ rw c.ranges-range-items.ensures.value at none
