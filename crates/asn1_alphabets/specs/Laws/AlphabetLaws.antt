-- Laws of alphabets: codes and characters.
use Rattle.std.proofs.Common.{◌≡◌, ℕ, ◌^◌, ◌<◌, ◌≤◌, Bool, true, false, eqb, List, length, get_or, Some, refl, sym, ◌∙◌, arith, inl, inr}
use Rattle.std.specs.Prelude.{◌≢◌}
use Rattle.std.specs.List.{AllPairs, slice_get}
use Rattle.std.proofs.lemmas.Bool.{cases_lt, false≢true}
use Rattle.std.proofs.lemmas.Bool.Decides.{nat_tests}
use Rattle.std.proofs.lemmas.Option.{slice_get_within, slice_get-get_or}
use Rattle.std.proofs.lemmas.Map.Keys.{any_passes_from_place}
use Rattle.asn1_characters.specs.Sets.{has_character}
use Rattle.asn1_characters.specs.Laws.SetLaws.{not_above}
use Rattle.asn1_alphabets.specs.Alphabet.{Alphabet, IsCode, is_indexed}

-- what is at an index is in the set
pub stands_in : (set : List ℕ) (k c : ℕ) → slice_get set k ≡ Some c → has_character set c ≡ true
stands_in set k c place = any_passes_from_place (λ x. eqb x c) set k c place (grind (arith, nat_tests))

-- what the set lacks has no code
pub missing_has_none : (alphabet : Alphabet) (c k : ℕ) →
    has_character alphabet.characters c ≡ false → ¬ (IsCode alphabet c k)
missing_has_none alphabet c k none code = absent alphabet.indexed refl
  where
    absent : (b : Bool) → alphabet.indexed ≡ b → ⊥
    absent true e = false≢true (sym none ∙ stands_in alphabet.characters k c (rw e at code))
    absent false e = let value = rw e at code in false≢true (sym none ∙ value.0)

-- a character of the set fits a width that the largest fits
pub value_fits : (set : List ℕ) (w c : ℕ) → is_indexed w set ≡ false →
    has_character set c ≡ true → c < 2 ^ w
value_fits set w c low has = let most = not_above set c has in grind (arith, nat_tests)

-- a code fits the width, if each index does and the alphabet uses indices wherever a character
-- does not
pub code_fits : (alphabet : Alphabet) (c k : ℕ) →
    length alphabet.characters ≤ 2 ^ alphabet.width →
    alphabet.indexed ≡ is_indexed alphabet.width alphabet.characters → IsCode alphabet c k →
    k < 2 ^ alphabet.width
code_fits alphabet c k room by code = fits alphabet.indexed refl
  where
    fits : (b : Bool) → alphabet.indexed ≡ b → k < 2 ^ alphabet.width
    fits true e = let place = rw e at code in omega (arith, slice_get_within alphabet.characters k c place)
    fits false e =
        let value = rw e at code in
        let low = value_fits alphabet.characters alphabet.width c (sym by ∙ e) value.0 in
        omega (arith, value.1)

places_differ : (set : List ℕ) (c j k : ℕ) → AllPairs (λ a b. a ≢ b) set →
    slice_get set j ≡ Some c → slice_get set k ≡ Some c → j < k → ⊥
places_differ set c j k differ first second lt =
    let within = slice_get_within set k c second in
    let one = slice_get-get_or set j 0 (omega arith) in
    let other = slice_get-get_or set k 0 (omega arith) in
    differ j k 0 lt (omega arith) (let a : get_or set j 0 ≡ c = cc in let b : get_or set k 0 ≡ c = cc in a ∙ sym b)

-- where no two characters are equal, a character has one code
pub code_is_one : (alphabet : Alphabet) (c j k : ℕ) →
    AllPairs (λ a b. a ≢ b) alphabet.characters → IsCode alphabet c j → IsCode alphabet c k →
    j ≡ k
code_is_one alphabet c j k differ first second = by_case alphabet.indexed refl
  where
    by_case : (b : Bool) → alphabet.indexed ≡ b → j ≡ k
    by_case true e =
        let p = rw e at first in
        let q = rw e at second in
        elim (cases_lt j k) [
          | inl lt ↦ absurd (places_differ alphabet.characters c j k differ p q lt)
          | inr ge ↦ elim (cases_lt k j)
              [ inl lt ↦ absurd (places_differ alphabet.characters c k j differ q p lt) | inr le ↦ omega arith ]
        ]
    by_case false e = let p = rw e at first in let q = rw e at second in p.1 ∙ sym q.1
