-- The UTF-8 of a string's characters, one after another.
use Rattle.std.proofs.Common.{◌≡◌, ℕ, zero, suc, ◌+◌, ◌-◌, ◌<◌, ◌≤◌, List, [], ◌∷◌, ◌++◌, length, ap, ◌∙◌, arith, append-nil, length-append}
use Rattle.std.specs.Prelude.{encode_utf8, encode_utf8_all}
use Rattle.std.specs.Char.{len_utf8}
use Rattle.std.proofs.lemmas.Bool.Decides.{nat_tests}
use Rattle.std.proofs.lemmas.Str.{encodes-append}
use Rattle.std.proofs.lemmas.List.FromFn.{map-range_with_len_more}
use Rattle.asn1_characters.specs.declared.character_set.CharacterSetName.{CharacterSetName}
use Rattle.asn1_c.specs.Sets.{character_at, characters_before}

-- the UTF-8 of the first characters
abbrev pub utf8_before : CharacterSetName → List ℕ → ℕ → List ℕ
utf8_before name octets n = encode_utf8_all (characters_before name octets n)

pub utf8_more : (name : CharacterSetName) (octets : List ℕ) (i : ℕ)
    → utf8_before name octets (i + 1) ≡ utf8_before name octets i ++ encode_utf8 (character_at name octets i)
utf8_more name octets i =
    ap encode_utf8_all (map-range_with_len_more (character_at name octets) 0 i i (omega arith))
    ∙ encodes-append (characters_before name octets i) (character_at name octets i ∷ [])
    ∙ ap (λ t. utf8_before name octets i ++ t) (append-nil (encode_utf8 (character_at name octets i)))

pub length-utf8_more : (name : CharacterSetName) (octets : List ℕ) (i : ℕ)
    → length (utf8_before name octets (i + 1)) ≡ length (utf8_before name octets i) + length
    (encode_utf8 (character_at name octets i))
length-utf8_more name octets i =
    ap length (utf8_more name octets i)
    ∙ length-append (utf8_before name octets i) (encode_utf8 (character_at name octets i))

-- a front is no longer than a longer one
pub utf8_front : (name : CharacterSetName) (octets : List ℕ) (i more : ℕ)
    → length (utf8_before name octets i) ≤ length (utf8_before name octets (i + more))
utf8_front name octets i zero = let e : i + 0 ≡ i = omega arith in omega (arith, ap (λ k. length (utf8_before name octets k)) e)
utf8_front name octets i (suc more) =
    let e : i + suc more ≡ (i + more) + 1 = omega arith in
    omega (
      arith,
      ap (λ k. length (utf8_before name octets k)) e,
      utf8_front name octets i more,
      length-utf8_more name octets (i + more),
    )

-- one character more lies within all of them
pub utf8_within : (name : CharacterSetName) (octets : List ℕ) (i n : ℕ) → i < n
    → length (utf8_before name octets (i + 1)) ≤ length (utf8_before name octets n)
utf8_within name octets i n lt =
    let e : (i + 1) + (n - (i + 1)) ≡ n = omega arith in
    omega (arith, ap (λ k. length (utf8_before name octets k)) e, utf8_front name octets (i + 1) (n - (i + 1)))

-- a character of two octets has at most three in UTF-8
pub three_at_most : (c : ℕ) → c < 65536 → len_utf8 c ≤ 3
three_at_most c small = grind (arith, nat_tests)
