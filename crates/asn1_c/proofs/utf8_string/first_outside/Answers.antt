use Rattle.std.proofs.Common.{◌≡◌, ℕ, List, true, length, sym, ap, subst, ◌∙◌, arith, rules}
use Rattle.std.specs.Prelude.{slice_index}
use Rattle.std.specs.Str.{chars}
use Rattle.std.proofs.lemmas.Iterator.{YieldsList-from_chars}
use Rattle.std.proofs.lemmas.Iterator.Consumers.{YieldsList-turn, YieldsList-end}
use Rattle.std.proofs.lemmas.List.{length_push}
use Rattle.asn1_characters.specs.Sets.{base_set, has_character}
use Rattle.asn1_c.proofs.TextCharacterLemmas.{at_place, right_more}
use Rattle.asn1_c.proofs.utf8_string.first_outside.Goals as goal

pub returns-then-not-contains-clause-wrong : goal.returns-then-not-contains-clause-wrong
returns-then-not-contains-clause-wrong c =
    let inv = c.loop-character.invariant in
    let cs : List ℕ = chars c.args.text.now in
    let t = YieldsList-turn (YieldsList-from_chars c.args.text.now c.utf8.text cc) c.loop-character.yielded _
    c.loop-character.yielded_by _ _ c.in-Some.character c.in-Some.is c.next.ensures.steps in
    let is : c.in-Some.character ≡ slice_index cs c.loop-character.place =
    at_place cs (length c.loop-character.yielded) c.in-Some.character t ∙ ap (slice_index cs) (sym inv.place) in
    (omega (arith, t.0, inv.place), is, search rules)

pub loop-character-preserved : goal.loop-character-preserved
loop-character-preserved c =
    let inv = c.loop-character.invariant in
    let cs : List ℕ = chars c.args.text.now in
    let t = YieldsList-turn (YieldsList-from_chars c.args.text.now c.utf8.text cc) c.loop-character.yielded _
    c.loop-character.yielded_by _ _ c.in-Some.character c.in-Some.is c.next.ensures.steps in
    let is : c.in-Some.character ≡ slice_index cs c.loop-character.place =
    at_place cs (length c.loop-character.yielded) c.in-Some.character t ∙ ap (slice_index cs) (sym inv.place) in
    let here : has_character (base_set c.args.name) c.in-Some.character ≡ true = search rules in
    record {
      place = omega (arith, inv.place, length_push c.loop-character.yielded c.in-Some.character);
      right =
          right_more (λ j. has_character (base_set c.args.name) (slice_index cs j) ≡ true) c.loop-character.place inv.right
          (subst (λ x. has_character (base_set c.args.name) x ≡ true) is here);
    }

pub returns-clause-none : goal.returns-clause-none
returns-clause-none c = λ j lt.
    let inv = c.loop-character.invariant in
    let t = YieldsList-end (YieldsList-from_chars c.args.text.now c.utf8.text cc) c.loop-character.yielded _
    c.loop-character.yielded_by _ _ c.in-None.is c.next.ensures.steps in
    inv.right j (omega (arith, t.1, inv.place))
