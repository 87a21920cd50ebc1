use Rattle.std.proofs.Common.{◌≡◌, ℕ, ◌+◌, ◌-◌, ◌*◌, ◌/◌, ◌%◌, ◌^◌, map, Option, ap, sym, ◌∙◌, arith}
use Rattle.std.specs.Prelude.{vec_len}
use Rattle.std.proofs.lemmas.List.{length-map, map-append}
use Rattle.asn1_bits.specs.BitStr.{bits_of}
use Rattle.asn1_bits.specs.Bits.{number}
use Rattle.asn1_strings.specs.Pieces.{pieces}
use Rattle.asn1_strings.proofs.KeyLemmas.{both_held, read_next, key_of_word, keys_within}
use Rattle.asn1_strings.proofs.key_walk.push_word.Goals as goal

pub word-word-requires-clause-within : goal.word-word-requires-clause-within
word-word-requires-clause-within g c =
    rw c.len.ensures (keys_within _ c.args.keys.width _ c.requires.within)

pub loop-i-preserved : goal.loop-i-preserved
loop-i-preserved g c =
    let value = g.S.T.CodeUnit.value in
    let bits = bits_of c.args.keys.bits in
    let w = c.args.keys.width in
    let numbers = map number (pieces w bits) in
    let get : ℕ → Option ℕ = (g.M.Keys.key_map c.args.map.now).get in
    let n = vec_len c.args.units.now in
    let i = c.loop-i.i in
    let m = c.args.count - 1 - i in
    let items = c.loop-i.units.items in
    let long : vec_len c.loop-i.units ≡ n + i = c.loop-i.invariant.len in
    let spelled = rw c.len.ensures at c.word-word.ensures in
    let at = key_of_word bits w n i m c.args.count c.word-word.result (omega arith) c.requires.within spelled
    ∙ ap (λ (d : ℕ). c.word-word.result / 2 ^ (w * m) % d) (sym c.codes_of-codes.ensures) in
    record {
      len = omega arith;
      capacity = c.push_reserved.ensures.capacity ∙ c.loop-i.invariant.capacity;
      read = λ ok before.
          let held = both_held _ _ ok in
          let so_far = c.loop-i.invariant.read held.0 before in
          let found = sym c.get.ensures ∙ c.checked_character-character.ensures.right held.1 in
          let next =
          read_next g.S.HasCharacterSet.CHARACTER_SET_NAME get numbers (map value items) (n + i) _ _
          (length-map items value ∙ omega (arith, c.loop-i.units.ok.0)) so_far at found
          c.checked_character-character.ensures.held in
          λ k h. rw (c.push_reserved.ensures.items, map-append, c.from_character.ensures) (next k (omega arith));
      empty = λ none. absurd (omega arith);
    }
