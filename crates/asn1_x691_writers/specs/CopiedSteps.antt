-- What follows of characters whose codes are those of an alphabet.
use Rattle.std.proofs.Common.{◌≡◌, ℕ, ◌*◌, ◌≤◌, Bool, true, false, List, [], ◌∷◌, length, map, take, drop, sym, ◌∙◌, ap, subst, arith}
use Rattle.std.proofs.lemmas.List.{length-drop}
use Rattle.asn1_bits.specs.Bits.{bits}
use Rattle.asn1_bits.specs.Laws.DigitLaws.{length-bits}
use Rattle.asn1_schema.specs.declared.part.Characters.{Characters}
use Rattle.asn1_schema.specs.declared.part.Codes.{Codes}
use Rattle.asn1_schema.specs.declared.part.Codes.TheVariants.{Numbers, Indices}
use Rattle.asn1_schema.specs.declared.tables.Range.{Range}
use Rattle.asn1_schema.specs.declared.tables.Rows.{Rows}
use Rattle.asn1_schema.specs.CharactersOfParts.{numbers_in, character_at, character_of, characters_of}
use Rattle.asn1_schema.specs.Encodings.{each}
use Rattle.asn1_x691.specs.Characters.{character}
use Rattle.asn1_x691_fields.specs.declared.alphabets.Alphabet.{Alphabet}
use Rattle.asn1_x691_fields.specs.Characters.{IsAlphabet, AreCodes, rows_of, character_by, characters_at}
use Rattle.asn1_x691_fields.specs.TextSteps.{codes_encode}
use Rattle.asn1_x691_writers.specs.Copied.{AreCopied, HaveCodesOf}
use Rattle.asn1_x691_writers.specs.Texts.{AreIn}

-- codes of the alphabet are of characters in it
pub codes_in : (a : Alphabet) (codes : List ℕ) → AreCodes a codes → AreIn a.ranges.now (map (character_by a.are_numbers a.ranges.now) codes)
codes_in a [] p = tt
codes_in a (i ∷ codes) p = (p.0.0, codes_in a codes p.1)

module _ (a : Alphabet) (table : List Range) (list : List Bool) (text : Characters) (width : text.width ≡ a.width) where
  abbrev numbers : List ℕ
  numbers = numbers_in a.width text.count (drop text.at list)

  same_width : (codes : Codes) → text.codes ≡ codes → characters_of table list text ≡ map (character_of table codes) numbers
  same_width codes is =
      ap (λ (c : Codes). map (character_of table c) (numbers_in text.width text.count (drop text.at list))) is
      ∙ ap (λ (w : ℕ). map (character_of table codes) (numbers_in w text.count (drop text.at list))) width

  pub same_numbers : text.codes ≡ Numbers → a.are_numbers ≡ true → characters_of table list text ≡ characters_at a list text.at text.count
  same_numbers is e = same_width Numbers is ∙ sym (ap (λ (b : Bool). map (character_by b a.ranges.now) numbers) e)

  pub same_indices : (rows : Rows) → text.codes ≡ Indices rows → a.are_numbers ≡ false → rows_of table rows ≡ a.ranges.now
      → characters_of table list text ≡ characters_at a list text.at text.count
  same_indices rows is e ranges =
      same_width (Indices rows) is ∙ ap (λ (r : List Range). map (character_at r) numbers) ranges
      ∙ sym (ap (λ (b : Bool). map (character_by b a.ranges.now) numbers) e)

  pub same_codes : (codes : Codes) → text.codes ≡ codes → HaveCodesOf a table codes
      → characters_of table list text ≡ characters_at a list text.at text.count
  same_codes Numbers is h = same_numbers is h
  same_codes (Indices rows) is h = same_indices rows is h.0 h.1

module _ (a : Alphabet) (source : List ℕ) (table : List Range) (text : Characters) (c : AreCopied a source table text) where
  pub copied_in : AreIn a.ranges.now (characters_of table (bits source) text)
  copied_in =
      subst (λ (l : List ℕ). AreIn a.ranges.now l) (sym c.same)
      (codes_in a (numbers_in a.width text.count (drop text.at (bits source))) c.codes)

  -- their bits are their encoding
  pub copied_encode : IsAlphabet a → (node : ℕ)
      → (each (character a.is_aligned a.ranges.now node) text.count).encodes (characters_of table (bits source) text)
      (take (a.width * text.count) (drop text.at (bits source)))
  copied_encode is node =
      let list = bits source in
      let some : a.width * text.count ≤ length (drop text.at list) =
      omega (arith, c.inside, length-drop text.at list, length-bits source) in
      subst
      (λ (l : List ℕ). (each (character a.is_aligned a.ranges.now node) text.count).encodes l (take (a.width * text.count) (drop text.at list)))
      (sym c.same) (codes_encode a node text.count (drop text.at list) is.width some c.codes)
