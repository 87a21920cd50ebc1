use Rattle.std.proofs.Common.{◌≡◌, ◌++◌, ◌+◌, ◌/◌, ◌∙◌, ◌<◌, ◌≤◌, ℕ, List, ap, sym, subst, length, take, drop, arith}
use Rattle.std.specs.Prelude.{encode_utf8}
use Rattle.asn1_c.specs.Sets.{character_at, character_count}
use Rattle.asn1_c.proofs.TextLemmas.{put_behind}
use Rattle.asn1_c.proofs.Utf8Lemmas.{utf8_before, utf8_more, length-utf8_more, utf8_within}
use Rattle.asn1_c.proofs.string_utf8.put_utf8.Goals as goal

pub put_at-at-requires : goal.put_at-at-requires
put_at-at-requires c =
    let inv = c.loop-i.invariant in
    let i : ℕ = c.loop-i.i in
    let below : i < character_count c.args.name c.args.octets.now =
    subst (λ k. i < length c.args.octets.now / k) c.size_of_character.ensures.size c.loop-i-test.true in
    let is : c.as_bytes.result.now ≡ encode_utf8 (character_at c.args.name c.args.octets.now i) =
    c.as_bytes.ensures.value ∙ c.encode_utf8-spelled.ensures.value ∙ ap encode_utf8 c.char_of.ensures.character in
    omega (
      arith,
      inv.place,
      ap length is,
      length-utf8_more c.args.name c.args.octets.now i,
      utf8_within c.args.name c.args.octets.now i (character_count c.args.name c.args.octets.now) below,
      c.requires.room,
      c.loop-i.auto.room,
    )

pub loop-i-preserved : goal.loop-i-preserved
loop-i-preserved c =
    let inv = c.loop-i.invariant in
    let i : ℕ = c.loop-i.i in
    let octets : List ℕ = c.args.octets.now in
    let front : List ℕ = utf8_before c.args.name octets i in
    let part : List ℕ = c.as_bytes.result.now in
    let below : i < character_count c.args.name octets =
    subst (λ k. i < length octets / k) c.size_of_character.ensures.size c.loop-i-test.true in
    let is : part ≡ encode_utf8 (character_at c.args.name octets i) =
    c.as_bytes.ensures.value ∙ c.encode_utf8-spelled.ensures.value ∙ ap encode_utf8 c.char_of.ensures.character in
    let more = length-utf8_more c.args.name octets i in
    let fits : c.loop-i.at + length part ≤ length c.args.room.now =
    omega (
      arith,
      inv.place,
      ap length is,
      more,
      utf8_within c.args.name octets i (character_count c.args.name octets) below,
      c.requires.room,
    ) in
    let now : front ++ part ≡ utf8_before c.args.name octets (i + 1) = ap (λ t. front ++ t) is
    ∙ sym (utf8_more c.args.name octets i) in
    record {
      written = c.put_at-at.ensures.put
          ∙ ap (λ r. take c.loop-i.at r ++ (part ++ drop (c.loop-i.at + length part) r)) inv.written
          ∙ put_behind front part c.args.room.now c.loop-i.at inv.place fits
          ∙ ap (λ t. t ++ drop (c.loop-i.at + length part) c.args.room.now) now
          ∙ ap (λ k. utf8_before c.args.name octets (i + 1) ++ drop k c.args.room.now) (sym c.put_at-at.ensures.place);
      place = omega (arith, c.put_at-at.ensures.place, inv.place, ap length is, more);
    }
