-- A `BmpString` is read back from its pairs of octets.
use Rattle.std.proofs.Common.{◌≡◌, ℕ, suc, ◌*◌, ◌%◌, ◌<◌, true, List, [], ◌∷◌, length, get_or, map, Ok, refl, ap, ◌∙◌, arith}
use Rattle.std.specs.List.{All, flat_map}
use Rattle.std.specs.Int.{w16, to_be_bytes}
use Rattle.std.proofs.lemmas.List.{length-append}
use Rattle.asn1_characters.specs.Sets.{base_set, has_character}
use Rattle.asn1_characters.specs.Laws.SetLaws.{below_limit}
use Rattle.asn1_strings.specs.Pieces.{pieces, unsigned}
use Rattle.asn1_strings.specs.Laws.PieceLaws.{pieces_cons}
use Rattle.asn1_strings.specs.Strings.{string_of_octets}
use Rattle.asn1_strings.proofs.StringLemmas.{string_of_right}
use Rattle.asn1_characters.specs.declared.character_set.CharacterSetName.TheVariants.{Bmp}

-- the number of a character's two octets
pair_number : (c : ℕ) → c < 65536 → unsigned (to_be_bytes w16 c) ≡ c
unfolding unsigned
pair_number c lt = omega arith

numbers : (cs : List ℕ) → ((k : ℕ) → k < length cs → get_or cs k 0 < 65536)
    → map unsigned (pieces 2 (flat_map (to_be_bytes w16) cs)) ≡ cs
numbers [] small = refl
numbers (c ∷ cs) small =
    ap (map unsigned) (pieces_cons 2 (to_be_bytes w16 c) (flat_map (to_be_bytes w16) cs) (omega arith) refl)
    ∙ rw (pair_number c (small 0 (omega arith)), numbers cs (λ k h. small (suc k) (omega arith))) refl

length-pairs : (cs : List ℕ) → length (flat_map (to_be_bytes w16) cs) ≡ 2 * length cs
length-pairs [] = refl
length-pairs (c ∷ cs) = length-append (to_be_bytes w16 c) (flat_map (to_be_bytes w16) cs)
    ∙ rw (length-pairs cs) (omega arith)

-- the string of the octets of a string is that string
pub read_back : (cs : List ℕ) → All (λ c. has_character (base_set Bmp) c ≡ true) cs
    → string_of_octets Bmp 2 (flat_map (to_be_bytes w16) cs) ≡ Ok cs
read_back cs right =
    let even : length (flat_map (to_be_bytes w16) cs) % 2 ≡ 0 = rw (length-pairs cs) (omega arith) in
    let same = numbers cs (λ k h. below_limit Bmp 65536 refl (get_or cs k 0) (right k 0 h)) in
    rw (even, same) (string_of_right Bmp cs (λ k h. right k 0 h))
