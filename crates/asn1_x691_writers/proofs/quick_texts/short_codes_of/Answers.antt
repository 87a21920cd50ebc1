use Rattle.std.proofs.Common.{◌≡◌, ℕ, ◌+◌, ◌*◌, ◌^◌, ◌<◌, ◌≤◌, length, take, drop, refl, sym, ◌∙◌, ap, subst, arith}
use Rattle.std.proofs.lemmas.List.{length-drop, length-take-le}
use Rattle.asn1_bits.specs.Bits.{bits, digits, number}
use Rattle.asn1_bits.specs.Laws.DigitLaws.{length-bits}
use Rattle.asn1_bits.specs.Laws.NumberLaws.{digits_of-number}
use Rattle.asn1_schema.specs.CharactersOfParts.{numbers_in}
use Rattle.asn1_x691_fields.specs.Characters.{AreCodes}
use Rattle.asn1_x691_fields.specs.WindowSteps.{field_below}
use Rattle.asn1_x691_writers.specs.CopiedSteps.{same_codes}
use Rattle.asn1_x691_writers.proofs.quick_texts.short_codes_of.Goals as goal

pub returns-clause-below : goal.returns-clause-below
returns-clause-below c =
    let size = c.args.alphabet.now.width * c.args.text.count in
    subst (λ (n : ℕ). n < 2 ^ size) (sym c.number_in.ensures)
    (field_below c.in_ok-window.window.word (c.in_ok-window.window.shift + 0) size (omega (arith, c.if-window-size-gt63.false)))

pub returns-clause-copied : goal.returns-clause-copied
returns-clause-copied c =
    let a = c.args.alphabet.now in
    let text = c.args.text in
    let list = bits c.args.source.now in
    let size = a.width * text.count in
    let here : text.at + 0 ≡ text.at = omega arith in
    let inside : text.at + size ≤ 8 * length c.args.source.now = omega (arith, c.if-size-end.false, c.if-text-end.false) in
    let within : text.at + (0 + size) ≤ length list = omega (arith, inside, length-bits c.args.source.now) in
    let codes = c.have_codes.ensures list text.at c.in_ok-window.ensures.is within c.if-not-have_codes.false in
    record {
      inside = inside;
      codes = subst (λ (p : ℕ). AreCodes a (numbers_in a.width text.count (drop p list))) here codes;
      same = same_codes a c.args.table.now list text c.if-text-alphabet.false text.codes refl (c.have_codes_of.ensures c.if-not-have_codes_of.false);
    }

pub returns-clause-codes : goal.returns-clause-codes
returns-clause-codes c =
    let a = c.args.alphabet.now in
    let text = c.args.text in
    let list = bits c.args.source.now in
    let size = a.width * text.count in
    let here : text.at + 0 ≡ text.at = omega arith in
    let some : size ≤ length (drop text.at list) =
    omega (arith, c.if-size-end.false, c.if-text-end.false, length-bits c.args.source.now, length-drop text.at list) in
    let is : c.number_in.result ≡ number (take size (drop text.at list)) =
    c.number_in.ensures ∙ c.in_ok-window.ensures.is.numbers 0 size (omega (arith, c.if-window-size-gt63.false))
    ∙ ap (λ (p : ℕ). number (take size (drop p list))) here in
    ap (λ (n : ℕ). digits n size) is ∙ digits_of-number (take size (drop text.at list)) size (length-take-le size (drop text.at list) some)
