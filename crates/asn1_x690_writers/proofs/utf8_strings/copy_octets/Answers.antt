use Rattle.std.proofs.Common.{◌≡◌, ◌*◌, ◌<◌, [], length, take, refl, sym, ◌∙◌, inl, arith}
use Rattle.std.specs.Prelude.{All}
use Rattle.std.proofs.lemmas.List.{length-take-le, take_all}
use Rattle.std.proofs.lemmas.List.Elements.{All-from_get_or}
use Rattle.asn1_bits.specs.Bits.{bits}
use Rattle.asn1_bits.specs.Laws.DigitLaws.{length-bits}
use Rattle.asn1_bits.specs.Laws.NumberLaws.{same_octets}
use Rattle.asn1_schema.specs.CharactersOfParts.{numbers_in}
use Rattle.asn1_x691_fields.specs.ContentSteps.{bits_of_octets, octets_below}
use Rattle.asn1_x690_writers.specs.Fragments.{bits_left}
use Rattle.asn1_x690_writers.proofs.utf8_strings.copy_octets.Goals as goal

pub returns : goal.returns
returns c =
    let all = bits_left 8 (bits c.args.source.now) c.args.rest in
    let n = length c.args.octets.now in
    let now = c.put_first.new.octets in
    let more = take (8 * n) all in
    let size = length-take-le (8 * n) all c.requires.within in
    let len : length now ≡ n = c.put_first.auto.octets in
    let held = c.put_first.ensures.held [] (record { index = inl refl; kept = λ p. refl }) in
    let few : 8 * length now ≡ length more = omega (arith, size, len) in
    let is = sym (take_all (length more) (bits now) (omega (arith, few, length-bits now))) ∙ held.kept (omega (arith, few)) in
    let are : All (λ octet. octet < 256) now = All-from_get_or (λ octet. octet < 256) now 0 (λ i lt. omega (arith, c.type_inv.octets i)) in
    same_octets now (numbers_in 8 n all) are (octets_below n all) (is ∙ sym (bits_of_octets n all c.requires.within))
