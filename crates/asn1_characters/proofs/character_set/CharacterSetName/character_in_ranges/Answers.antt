use Rattle.std.proofs.Common.{◌≡◌, ◌+◌, ◌≤◌, length, get_or, take, Some, ap, sym, arith}
use Rattle.std.proofs.lemmas.List.{take_all}
use Rattle.std.proofs.lemmas.Option.{slice_get_past}
use Rattle.std.specs.List.{slice_get, flat_map}
use Rattle.asn1_characters.specs.Sets.{characters_between}
use Rattle.asn1_characters.specs.Laws.TableLaws.{counted, length_counted}
use Rattle.asn1_characters.proofs.PlaceLemmas.{at_range, base_is}
use Rattle.asn1_characters.proofs.character_set.CharacterSetName.character_in_ranges.Goals as goal

pub returns-then-left-count : goal.returns-then-left-count
returns-then-left-count c =
    let rs = c.ranges-range-items.result.now in
    let i = c.loop-range.range-index in
    let fine = c.ranges-range-items.ensures.fine i (omega arith) in
    let here : slice_get (flat_map characters_between rs) (counted (take i rs) + c.loop-range.left) ≡ Some
    ((get_or rs i (0, 0)).0 + c.loop-range.left) =
    at_range rs i c.loop-range.left (omega arith) (omega arith)
    in
    sym (rw (base_is c.args.self, ← c.ranges-range-items.ensures.value, c.loop-range.invariant) here)

pub returns : goal.returns
returns c =
    let rs = c.ranges-range-items.result.now in
    let all : take c.loop-range.range-index rs ≡ rs = take_all c.loop-range.range-index rs (omega arith) in
    let past : length (flat_map characters_between rs) ≤ c.args.place =
    omega (arith, length_counted rs, ap counted all, c.loop-range.invariant) in
    sym (rw (base_is c.args.self, ← c.ranges-range-items.ensures.value)
    (slice_get_past (flat_map characters_between rs) c.args.place past))
