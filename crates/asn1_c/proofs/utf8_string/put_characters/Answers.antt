use Rattle.std.proofs.Common.{◌≡◌, ◌++◌, ◌∷◌, ◌+◌, ◌*◌, ◌≤◌, ◌∙◌, [], ℕ, List, true, ap, sym, subst, length, take, drop, arith}
use Rattle.std.specs.Str.{chars}
use Rattle.std.proofs.lemmas.Iterator.{YieldsList-from_chars}
use Rattle.std.proofs.lemmas.Iterator.Consumers.{YieldsList-turn, YieldsList-end}
use Rattle.std.proofs.lemmas.List.{length_push, map-id}
use Rattle.asn1_characters.specs.Sets.{base_set, has_character}
use Rattle.asn1_strings.specs.Strings.{character_octets}
use Rattle.asn1_c.specs.Sets.{octets_of_character, octets_of_characters}
use Rattle.asn1_c.proofs.TextLemmas.{put_behind}
use Rattle.asn1_c.proofs.TextCharacterLemmas.{at_place, octets_more, length-octets, length-characters, times_more, character_within}
use Rattle.asn1_c.proofs.utf8_string.put_characters.Goals as goal

pub put_character-at-requires-clause-set : goal.put_character-at-requires-clause-set
put_character-at-requires-clause-set c =
    let cs : List ℕ = chars c.args.text.now in
    let t = YieldsList-turn (YieldsList-from_chars c.args.text.now c.utf8.text cc) c.loop-character.yielded _
    c.loop-character.yielded_by _ _ c.in-Some.character c.in-Some.is c.next.ensures.steps in
    subst (λ x. has_character (base_set c.args.name) x ≡ true)
    (sym (at_place cs (length c.loop-character.yielded) c.in-Some.character t))
    (c.requires.set (length c.loop-character.yielded) t.0)

pub put_character-at-requires-clause-room : goal.put_character-at-requires-clause-room
put_character-at-requires-clause-room c =
    let inv = c.loop-character.invariant in
    let cs : List ℕ = chars c.args.text.now in
    let t = YieldsList-turn (YieldsList-from_chars c.args.text.now c.utf8.text cc) c.loop-character.yielded _
    c.loop-character.yielded_by _ _ c.in-Some.character c.in-Some.is c.next.ensures.steps in
    omega (
      arith,
      inv.place,
      character_within c.args.name (length c.loop-character.yielded) (length cs) t.0,
      c.requires.room,
      c.loop-character.auto.room,
    )

pub loop-character-preserved : goal.loop-character-preserved
loop-character-preserved c =
    let inv = c.loop-character.invariant in
    let cs : List ℕ = chars c.args.text.now in
    let t = YieldsList-turn (YieldsList-from_chars c.args.text.now c.utf8.text cc) c.loop-character.yielded _
    c.loop-character.yielded_by _ _ c.in-Some.character c.in-Some.is c.next.ensures.steps in
    let name = c.args.name in
    let x : ℕ = c.in-Some.character in
    let done : List ℕ = c.loop-character.yielded in
    let front : List ℕ = octets_of_characters name done in
    let part : List ℕ = octets_of_character name x in
    let size : length part ≡ character_octets name = length-octets name x in
    let place : c.loop-character.at ≡ length front = inv.place ∙ sym (length-characters name done) in
    let fits : c.loop-character.at + length part ≤ length c.args.room.now =
    omega (arith, inv.place, size, character_within name (length done) (length cs) t.0, c.requires.room) in
    let put = c.put_character-at.ensures in
    record {
      written = put.put
          ∙ ap (λ k. take c.loop-character.at c.loop-character.room ++ (part ++ drop (c.loop-character.at + k) c.loop-character.room))
          (sym size)
          ∙ ap (λ r. take c.loop-character.at r ++ (part ++ drop (c.loop-character.at + length part) r)) inv.written
          ∙ put_behind front part c.args.room.now c.loop-character.at place fits
          ∙ ap (λ l. l ++ drop (c.loop-character.at + length part) c.args.room.now) (sym (octets_more name done x))
          ∙ ap (λ k. octets_of_characters name (done ++ x ∷ []) ++ drop k c.args.room.now)
          (ap (λ k. c.loop-character.at + k) size ∙ sym put.place);
      place = omega (
        arith,
        put.place,
        inv.place,
        ap (λ k. character_octets name * k) (length_push done x),
        times_more (character_octets name) (length done),
      );
    }

pub returns : goal.returns
returns c =
    let inv = c.loop-character.invariant in
    let t = YieldsList-end (YieldsList-from_chars c.args.text.now c.utf8.text cc) c.loop-character.yielded _
    c.loop-character.yielded_by _ _ c.in-None.is c.next.ensures.steps in
    let all : c.loop-character.yielded ≡ chars c.args.text.now = sym (map-id c.loop-character.yielded) ∙ t.0 in
    inv.written
    ∙ ap (λ k. octets_of_characters c.args.name c.loop-character.yielded ++ drop k c.args.room.now) inv.place
    ∙ ap (λ l. octets_of_characters c.args.name l ++ drop (character_octets c.args.name * length l) c.args.room.now) all
