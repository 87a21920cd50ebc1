-- What follows of characters that were written one after another.
use Rattle.std.proofs.Common.{◌≡◌, ℕ, zero, suc, ◌+◌, ◌-◌, ◌*◌, ◌/◌, ◌%◌, ◌^◌, ◌<◌, ◌≤◌, min, List, [], ◌∷◌, ◌++◌, Bool, length, take, drop, map, refl, sym, ◌∙◌, ap, subst, arith, append_assoc}
use Rattle.std.proofs.lemmas.List.{length-append, append-nil, length-take, length-take-le, length-drop, map-id}
use Rattle.std.proofs.Math.Nat.{mul-mod_right, mul_assoc}
use Rattle.std.proofs.Math.Pow.{pow_mono}
use Rattle.asn1_bits.specs.Bits.{bits, digits, number}
use Rattle.asn1_bits.specs.Laws.DigitLaws.{length-bits, length-digits}
use Rattle.asn1_bits.specs.Laws.NumberLaws.{number-below}
use Rattle.asn1_schema.specs.declared.part.Characters.{Characters}
use Rattle.asn1_schema.specs.declared.part.Codes.{Codes}
use Rattle.asn1_schema.specs.declared.tables.Range.{Range}
use Rattle.asn1_schema.specs.CharactersOfParts.{character_of, characters_of, numbers_in}
use Rattle.asn1_schema.specs.PiecesOfParts.{bits_at}
use Rattle.asn1_x690.specs.Leaves.{AreCharacters, AreIn, IsIn}
use Rattle.asn1_x690_leaves.specs.TextSteps.{are_characters}
use Rattle.asn1_x691_writers.specs.GrownSteps.{grown_none, grown_both}
use Rattle.asn1_x691_writers.specs.TextSteps.{first_apart}
use Rattle.asn1_x691_writers.specs.Written.{IsGrown}
use Rattle.asn1_x690_writers.specs.Texts.{AreWithin, ArePlain, IsTextWritten}

-- the first character of a part, and the others
module _ (table : List Range) (list : List Bool) (text : Characters) where
  abbrev pub first_code : ℕ
  first_code = character_of table text.codes (number (bits_at list text.at text.width))

  first_of : 0 < text.count → (others : List ℕ) × (characters_of table list text ≡ first_code ∷ others)
  first_of some = (_, first_apart table list text (text.count - 1) (text.at + text.width) (omega (arith, some)) refl)

  pub first_within : (width : ℕ) → 0 < text.count → AreWithin width (characters_of table list text) → first_code < 2 ^ width
  first_within width some p = (subst (λ (l : List ℕ). AreWithin width l) (first_of some).1 p).0

  pub first_is_in : (ranges : List Range) → 0 < text.count → AreIn ranges (characters_of table list text) → IsIn ranges first_code
  first_is_in ranges some p = (subst (λ (l : List ℕ). AreIn ranges l) (first_of some).1 p).0

-- a character below 2^32 is not cut
pub not_cut : (x c width : ℕ) → width ≤ 32 → c ≡ min x (2 ^ 32) → x < 2 ^ width → c ≡ x
not_cut x c width few e below = let up : 2 ^ width ≤ 2 ^ 32 = pow_mono few in omega (arith, e, below, up)

pub is_character : (x c width : ℕ) → width ≤ 32 → c ≡ min x (2 ^ 32) → c < 2 ^ width → c ≡ x
is_character x c width few e below = let up : 2 ^ width ≤ 2 ^ 32 = pow_mono few in omega (arith, e, below, up)

-- characters that have contents octets are numbers of `width` bits each
pub within_bits : (width : ℕ) (text : List ℕ) (list : List Bool) → AreCharacters width text list → AreWithin width text
within_bits width [] list p = tt
within_bits width (c ∷ text) list p = (p.1, within_bits width text p.0 p.2)

-- some characters are written, and others are left
pub record IsTextUnderway (width : ℕ) (all : List ℕ) (was : List ℕ) (old : ℕ) (now : List ℕ) (at : ℕ) (left : List ℕ) : Type 0 where
  pub front : List Bool
  pub whole : length front % 8 ≡ 0
  pub grown : IsGrown was old now at front
  pub below : AreWithin width left
  pub onward : (rest : List Bool) → AreCharacters width left rest → AreCharacters width all (front ++ rest)

module _ (width : ℕ) (all : List ℕ) (was : List ℕ) (old : ℕ) where
  pub text_begun : AreWithin width all → IsTextUnderway width all was old was old all
  text_begun below = record {
    front = [];
    whole = refl;
    grown = grown_none was old;
    below = below;
    onward = λ rest p. p;
  }

  module _ (mid : List ℕ) (at : ℕ) (left : List ℕ) (u : IsTextUnderway width all was old mid at left) where
    pub first_below : (c : ℕ) (others : List ℕ) → left ≡ c ∷ others → c < 2 ^ width
    first_below c others e = (subst (λ (l : List ℕ). AreWithin width l) e u.below).0

    pub text_more : (c : ℕ) (others : List ℕ) (now : List ℕ) (next : ℕ) → left ≡ c ∷ others → width % 8 ≡ 0
        → IsGrown mid at now next (digits c width) → IsTextUnderway width all was old now next others
    text_more c others now next e octets g =
        let below = subst (λ (l : List ℕ). AreWithin width l) e u.below in
        record {
          front = u.front ++ digits c width;
          whole = omega (arith, u.whole, octets, length-append u.front (digits c width), length-digits c width);
          grown = grown_both was mid now old at next u.front (digits c width) u.grown g;
          below = below.1;
          onward = λ rest p.
              subst (λ (l : List Bool). AreCharacters width all l) (sym (append_assoc u.front (digits c width) rest))
              (u.onward (digits c width ++ rest)
              (subst (λ (l : List ℕ). AreCharacters width l (digits c width ++ rest)) (sym e) (rest, below.0, p, refl)));
        }

    pub text_done : left ≡ [] → IsTextWritten width all was old mid at
    text_done e = record {
      list = u.front;
      encodes = subst (λ (l : List Bool). AreCharacters width all l) (append-nil u.front)
          (u.onward [] (subst (λ (l : List ℕ). AreCharacters width l []) (sym e) refl));
      whole = u.whole;
      grown = u.grown;
    }

-- ---- numbers that are in the source

pub numbers_within : (width count : ℕ) (list : List Bool) → AreWithin width (numbers_in width count list)
numbers_within width zero list = tt
numbers_within width (suc count) list =
    let few : length (take width list) ≤ width = omega (arith, length-take width list) in
    (number-below (take width list) width few, numbers_within width count (drop width list))

whole_numbers : (width count : ℕ) → width % 8 ≡ 0 → width * count % 8 ≡ 0
whole_numbers width count e =
    let w : width ≡ 8 * (width / 8) = omega (arith, e) in
    ap (λ (n : ℕ). n * count % 8) w ∙ ap (λ (n : ℕ). n % 8) (mul_assoc 8 (width / 8) count) ∙ mul-mod_right 8 (width / 8 * count)

module _ (table : List Range) (source : List ℕ) (width : ℕ) (text : Characters) (p : ArePlain source width text) where
  abbrev numbers : List ℕ
  numbers = numbers_in width text.count (drop text.at (bits source))

  pub plain_characters : characters_of table (bits source) text ≡ numbers
  plain_characters =
      ap (λ (codes : Codes). map (character_of table codes) (numbers_in text.width text.count (drop text.at (bits source)))) p.numbers
      ∙ map-id (numbers_in text.width text.count (drop text.at (bits source)))
      ∙ ap (λ (n : ℕ). numbers_in n text.count (drop text.at (bits source))) p.size

  pub plain_within : AreWithin width (characters_of table (bits source) text)
  plain_within = subst (λ (l : List ℕ). AreWithin width l) (sym plain_characters) (numbers_within width text.count (drop text.at (bits source)))

  pub plain_in : (ranges : List Range) → AreIn ranges (numbers_in text.width text.count (drop text.at (bits source)))
      → AreIn ranges (characters_of table (bits source) text)
  plain_in ranges a =
      subst (λ (l : List ℕ). AreIn ranges l) (sym plain_characters)
      (subst (λ (n : ℕ). AreIn ranges (numbers_in n text.count (drop text.at (bits source)))) p.size a)

  pub in_plain : (ranges : List Range) → AreIn ranges (characters_of table (bits source) text)
      → AreIn ranges (numbers_in text.width text.count (drop text.at (bits source)))
  in_plain ranges a =
      subst (λ (n : ℕ). AreIn ranges (numbers_in n text.count (drop text.at (bits source)))) (sym p.size)
      (subst (λ (l : List ℕ). AreIn ranges l) plain_characters a)

  pub plain_written : (was : List ℕ) (old : ℕ) (now : List ℕ) (new : ℕ) → width % 8 ≡ 0
      → IsGrown was old now new (take (width * text.count) (drop text.at (bits source)))
      → IsTextWritten width (characters_of table (bits source) text) was old now new
  plain_written was old now new whole g =
      let list = drop text.at (bits source) in
      let enough : width * text.count ≤ length list = omega (arith, p.inside, length-drop text.at (bits source), length-bits source) in
      record {
        list = take (width * text.count) list;
        encodes = subst (λ (l : List ℕ). AreCharacters width l (take (width * text.count) list)) (sym plain_characters)
            (are_characters width text.count list enough);
        whole = ap (λ (n : ℕ). n % 8) (length-take-le (width * text.count) list enough) ∙ whole_numbers width text.count whole;
        grown = g;
      }
