use Rattle.std.proofs.Common.{◌≡◌, ◌*◌, ◌<◌, [], drop, length, refl, sym, ◌∙◌, inl, arith}
use Rattle.std.specs.Prelude.{All}
use Rattle.std.proofs.lemmas.List.{length-drop, take_all}
use Rattle.std.proofs.lemmas.List.Elements.{All-from_get_or}
use Rattle.asn1_bits.specs.Bits.{bits}
use Rattle.asn1_bits.specs.Laws.DigitLaws.{length-bits}
use Rattle.asn1_bits.specs.Laws.NumberLaws.{same_octets}
use Rattle.asn1_schema.specs.CharactersOfParts.{numbers_in}
use Rattle.asn1_schema.specs.PiecesOfParts.{bits_at}
use Rattle.asn1_x691_fields.specs.ContentSteps.{bits_of_octets, octets_below}
use Rattle.asn1_x691_fields.specs.Steps.{front_length}
use Rattle.asn1_x691_writers.specs.Joined.{bits_in}
use Rattle.asn1_x691_writers.proofs.utf8_in_fragments.copy_octets.Goals as goal

pub returns : goal.returns
returns c =
    let all = bits_in (bits c.args.source.now) c.args.joined.now in
    let n = length c.args.octets.now in
    let at = 8 * c.args.at in
    let now = c.put_joined.new.octets in
    let more = bits_at all at (8 * n) in
    let size = front_length all at (8 * n) c.requires.within in
    let len : length now ≡ n = c.put_joined.auto.octets in
    let held = c.put_joined.ensures.held [] (record { index = inl refl; kept = λ p. refl }) in
    let few : 8 * length now ≡ length more = omega (arith, size, len) in
    let is = sym (take_all (length more) (bits now) (omega (arith, few, length-bits now))) ∙ held.kept (omega (arith, few)) in
    let are : All (λ octet. octet < 256) now = All-from_get_or (λ octet. octet < 256) now 0 (λ i lt. omega (arith, c.type_inv.octets i)) in
    same_octets now (numbers_in 8 n (drop at all)) are (octets_below n (drop at all))
    (is ∙ sym (bits_of_octets n (drop at all) (omega (arith, length-drop at all, c.requires.within))))
