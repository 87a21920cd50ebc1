-- The octets of a text's characters, one after another.
use Rattle.std.proofs.Common.{◌≡◌, ⊎_elim, ℕ, suc, ◌≤◌, ◌+◌, ◌*◌, ◌<◌, ◌^◌, true, List, [], ◌∷◌, ◌++◌, length, get_or, refl, sym, ap, subst, ◌∙◌, arith, append-nil, length-append}
use Rattle.std.proofs.Math.Nat.{mul-suc, mul-zero, mul-le-mul_left}
use Rattle.std.specs.Prelude.{slice_index}
use Rattle.std.proofs.lemmas.List.{get_or_default}
use Rattle.std.proofs.lemmas.Grind.{flat_map-append}
use Rattle.std.proofs.lemmas.Bool.{cases_lt}
use Rattle.asn1_characters.specs.Sets.{base_set, has_character}
use Rattle.asn1_characters.specs.Laws.SetLaws.{below_limit}
use Rattle.asn1_characters.specs.declared.character_set.CharacterSetName.{CharacterSetName}
use Rattle.asn1_characters.specs.declared.character_set.CharacterSetName.TheVariants.{Bmp, General, Graphic, IA5, Numeric, Printable, Teletex, Visible}
use Rattle.asn1_strings.specs.Strings.{character_octets}
use Rattle.asn1_c.specs.Sets.{octets_of_character, octets_of_characters}

-- a character of a set fits its octets
pub fits_octets : (name : CharacterSetName) (c : ℕ) → has_character (base_set name) c ≡ true → c < 256 ^ character_octets name
fits_octets Bmp c h = below_limit Bmp 65536 refl c h
fits_octets General c h = below_limit General 256 refl c h
fits_octets Graphic c h = below_limit Graphic 256 refl c h
fits_octets IA5 c h = below_limit IA5 256 refl c h
fits_octets Numeric c h = below_limit Numeric 256 refl c h
fits_octets Printable c h = below_limit Printable 256 refl c h
fits_octets Teletex c h = below_limit Teletex 256 refl c h
fits_octets Visible c h = below_limit Visible 256 refl c h

-- one of the other sets fits one octet
pub fits_one : (name : CharacterSetName) (c : ℕ) → (name ≡ Bmp → ⊥) → has_character (base_set name) c ≡ true → c < 256
fits_one Bmp c other h = absurd (other refl)
fits_one General c other h = fits_octets General c h
fits_one Graphic c other h = fits_octets Graphic c h
fits_one IA5 c other h = fits_octets IA5 c h
fits_one Numeric c other h = fits_octets Numeric c h
fits_one Printable c other h = fits_octets Printable c h
fits_one Teletex c other h = fits_octets Teletex c h
fits_one Visible c other h = fits_octets Visible c h

-- and one of BMPString two
pub fits_two : (name : CharacterSetName) (c : ℕ) → name ≡ Bmp → has_character (base_set name) c ≡ true → c < 65536
fits_two name c is h = fits_octets Bmp c (subst (λ n. has_character (base_set n) c ≡ true) is h)

-- the character of a turn is the one at its index
pub at_place : (cs : List ℕ) (n c : ℕ) → (n < length cs) × (c ≡ get_or cs n c) → c ≡ slice_index cs n
at_place cs n c t = t.1 ∙ get_or_default cs n c 0 t.0

-- what holds of each character before an index, and of the one at it, holds before the next
pub right_more : (P : ℕ → Type 0) (n : ℕ) → ((j : ℕ) → j < n → P j) → P n → (j : ℕ) → j < n + 1 → P j
right_more P n before here j lt =
    ⊎_elim (λ less. before j less) (λ more. let is : n ≡ j = omega arith in subst P is here) (cases_lt j n)

pub octets_more : (name : CharacterSetName) (cs : List ℕ) (c : ℕ)
    → octets_of_characters name (cs ++ c ∷ []) ≡ octets_of_characters name cs ++ octets_of_character name c
octets_more name cs c =
    flat_map-append (octets_of_character name) cs (c ∷ [])
    ∙ ap (λ t. octets_of_characters name cs ++ t) (append-nil (octets_of_character name c))

pub length-octets : (name : CharacterSetName) (c : ℕ) → length (octets_of_character name c) ≡ character_octets name
length-octets Bmp c = refl
length-octets General c = refl
length-octets Graphic c = refl
length-octets IA5 c = refl
length-octets Numeric c = refl
length-octets Printable c = refl
length-octets Teletex c = refl
length-octets Visible c = refl

pub times_more : (size n : ℕ) → size * (n + 1) ≡ size * n + size
times_more size n = let e : n + 1 ≡ suc n = omega arith in ap (λ k. size * k) e ∙ mul-suc size n

pub length-characters : (name : CharacterSetName) (cs : List ℕ)
    → length (octets_of_characters name cs) ≡ character_octets name * length cs
length-characters name [] = sym (mul-zero (character_octets name))
length-characters name (c ∷ cs) =
    omega (
      arith,
      length-append (octets_of_character name c) (octets_of_characters name cs),
      length-octets name c,
      length-characters name cs,
      times_more (character_octets name) (length cs),
    )

-- one character more lies within all of them
pub character_within : (name : CharacterSetName) (n all : ℕ) → n < all
    → character_octets name * n + character_octets name ≤ character_octets name * all
character_within name n all lt =
    let le : n + 1 ≤ all = omega arith in
    omega (arith, times_more (character_octets name) n, mul-le-mul_left {m = n + 1} {n = all} (character_octets name) le)
