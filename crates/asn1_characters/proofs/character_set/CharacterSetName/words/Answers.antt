use Rattle.std.proofs.Common.{refl}
use Rattle.asn1_characters.specs.declared.character_set.CharacterSetName.TheVariants.{General, Graphic, IA5, Numeric, Printable, Teletex, Visible}
use Rattle.asn1_characters.proofs.WordLemmas.{words_right}
use Rattle.asn1_characters.proofs.character_set.CharacterSetName.words.Goals as goal

pub returns-in-General : goal.returns-in-General
returns-in-General c =
    λ x lt. rw c.in-General.is (words_right General c.new-in-General.result.words x (rw c.new-in-General.ensures refl)
    lt)

pub returns-in-Graphic : goal.returns-in-Graphic
returns-in-Graphic c =
    λ x lt. rw c.in-Graphic.is (words_right Graphic c.new-in-Graphic.result.words x (rw c.new-in-Graphic.ensures refl)
    lt)

pub returns-in-IA5 : goal.returns-in-IA5
returns-in-IA5 c =
    λ x lt. rw c.in-IA5.is (words_right IA5 c.new-in-IA5.result.words x (rw c.new-in-IA5.ensures refl) lt)

pub returns-in-Numeric : goal.returns-in-Numeric
returns-in-Numeric c =
    λ x lt. rw c.in-Numeric.is (words_right Numeric c.new-in-Numeric.result.words x (rw c.new-in-Numeric.ensures refl)
    lt)

pub returns-in-Printable : goal.returns-in-Printable
returns-in-Printable c =
    λ x lt. rw c.in-Printable.is (words_right Printable c.new-in-Printable.result.words x
    (rw c.new-in-Printable.ensures refl) lt)

pub returns-in-Teletex : goal.returns-in-Teletex
returns-in-Teletex c =
    λ x lt. rw c.in-Teletex.is (words_right Teletex c.new-in-Teletex.result.words x (rw c.new-in-Teletex.ensures refl)
    lt)

pub returns-in-Visible : goal.returns-in-Visible
returns-in-Visible c =
    λ x lt. rw c.in-Visible.is (words_right Visible c.new-in-Visible.result.words x (rw c.new-in-Visible.ensures refl)
    lt)
