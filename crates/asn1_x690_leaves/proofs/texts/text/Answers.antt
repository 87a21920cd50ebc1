use Rattle.std.proofs.Common.{ℕ, ◌/◌, ◌%◌, ◌*◌, length, drop, refl, sym, ◌∙◌, ap, subst, inl, inr, arith}
use Rattle.std.proofs.lemmas.List.{map-id}
use Rattle.std.proofs.Math.Nat.{mul-mod_right}
use Rattle.asn1_bits.specs.Bits.{bits}
use Rattle.asn1_bits.specs.Laws.DigitLaws.{length-bits}
use Rattle.asn1_schema.specs.CharactersOfParts.{numbers_in}
use Rattle.asn1_schema.specs.Pieces.{Text}
use Rattle.asn1_schema.specs.PiecesOfParts.{bits_of}
use Rattle.asn1_x690.specs.Leaves.{AreCharacters}
use Rattle.asn1_x690_leaves.proofs.SpanSteps.{span_size}
use Rattle.asn1_x690_leaves.specs.TextSteps.{whole_count, characters, text_size}
use Rattle.asn1_x690_leaves.proofs.texts.text.Goals as goal

pub returns-then-span-width-ne0 : goal.returns-then-span-width-ne0
returns-then-span-width-ne0 c ranges =
    let list = bits c.args.octets.now in
    let w = c.width_of-width.result in
    inl (
      refl,
      λ x p.
          c.if-span-width-ne0.true
          (let size = text_size _ x (bits_of list c.args.span) p in
          ap (λ (n : ℕ). n % w) (sym (span_size list c.args.span c.requires.contents) ∙ size
          ∙ ap (λ (n : ℕ). n * length x) (sym c.width_of-width.ensures.value))
          ∙ mul-mod_right w (length x)),
    )

pub is_text-requires-clause-inside : goal.is_text-requires-clause-inside
is_text-requires-clause-inside c =
    let w = c.width_of-width.result in
    let f = whole_count c.args.span.count w c.width_of-width.ensures.some c.if-span-width-ne0.false in
    let i = c.requires.contents.inside in
    omega (arith, f, i, length-bits c.args.octets.now)

pub returns-then-not-is_text : goal.returns-then-not-is_text
returns-then-not-is_text c ranges =
    let list = bits c.args.octets.now in
    let w = c.width_of-width.result in
    let s = c.args.span in
    let are = characters list s w c.requires.contents c.width_of-width.ensures.some c.if-span-width-ne0.false in
    inr (
      refl,
      (
        numbers_in w (s.count / w) (drop s.at list),
        subst (λ (n : ℕ). AreCharacters n (numbers_in w (s.count / w) (drop s.at list)) (bits_of list s)) c.width_of-width.ensures.value are,
        c.is_text.ensures.no c.if-not-is_text.true,
      ),
    )

pub returns : goal.returns
returns c ranges =
    let list = bits c.args.octets.now in
    let w = c.width_of-width.result in
    let s = c.args.span in
    let are = characters list s w c.requires.contents c.width_of-width.ensures.some c.if-span-width-ne0.false in (
      numbers_in w (s.count / w) (drop s.at list),
      subst (λ (n : ℕ). AreCharacters n (numbers_in w (s.count / w) (drop s.at list)) (bits_of list s)) c.width_of-width.ensures.value are,
      c.is_text.ensures.yes c.if-not-is_text.false,
      ap Text (map-id (numbers_in w (s.count / w) (drop s.at list))),
    )
