-- The characters of one octet or two, and the tests of octets.
use Rattle.std.proofs.Common.{◌≡◌, ℕ, suc, ◌/◌, ◌%◌, ◌≤◌, Bool, true, false, Ok, eqb, leb, ◌&&◌, ◌||◌, ◌+◌, ◌-◌, ◌<◌, get_or, List, [], ◌∷◌, length, map, refl, ap, sym, ◌∙◌, arith}
use Rattle.std.specs.Prelude.{◌≢◌, ◌↔◌, IsTrue}
use Rattle.std.specs.List.{All, list_all}
use Rattle.std.proofs.lemmas.List.{map-id, get_or-map, get_or_default, length-map}
use Rattle.asn1_strings.specs.Strings.{string_of_octets}
use Rattle.asn1_strings.proofs.StringLemmas.{string_of_right}
use Rattle.std.specs.Int.{w16, from_be_bytes}
use Rattle.std.specs.Simd.{first_chunks}
use Rattle.std.proofs.lemmas.Bool.Decides.{nat_tests}
use Rattle.std.proofs.lemmas.List.Sums.{AllPass-from_list_all, list_all-from_AllPass}
use Rattle.asn1_characters.specs.Sets.{ranges_of, base_set, has_character, largest}
use Rattle.asn1_characters.specs.Laws.SetLaws.{has_in_base, no_larger, largest_within}
use Rattle.asn1_strings.specs.Pieces.{pieces, unsigned}
use Rattle.asn1_strings.specs.Laws.PieceLaws.{pieces_cons}
use Rattle.asn1_characters.specs.declared.character_set.CharacterSetName.{CharacterSetName}

one : (x : ℕ) → unsigned (x ∷ []) ≡ x
unfolding unsigned
one x = omega arith

-- characters of one octet are the octets
pub ones : (xs : List ℕ) → map unsigned (pieces 1 xs) ≡ xs
ones [] = refl
ones (x ∷ xs) = ap (map unsigned) (pieces_cons 1 (x ∷ []) xs (omega arith) refl) ∙ rw (one x, ones xs) refl

two : (a b : ℕ) → unsigned (a ∷ b ∷ []) ≡ from_be_bytes w16 (a ∷ b ∷ [])
unfolding unsigned
two a b = omega arith

-- characters of two octets are the numbers of the pairs
pub pairs : (xs : List ℕ) → map unsigned (pieces 2 xs) ≡ map (from_be_bytes w16) (first_chunks 2 (length xs / 2) xs)
pairs [] = refl
pairs (a ∷ []) = refl
pairs (a ∷ b ∷ xs) =
    let count : length (a ∷ b ∷ xs) / 2 ≡ suc (length xs / 2) = omega arith in
    ap (map unsigned) (pieces_cons 2 (a ∷ b ∷ []) xs (omega arith) refl) ∙ rw count (rw (two a b, pairs xs) refl)

-- two tests, one after the other
pub both : {P Q R : Type 0} → P ↔ Q → Q ↔ R → P ↔ R
both p q = (λ x. q.0 (p.0 x), λ z. p.1 (q.1 z))

-- what a test of each found
pub all_in : (set xs : List ℕ) (right : Bool) → right ≡ list_all (has_character set) xs
    → IsTrue right ↔ All (λ c. has_character set c ≡ true) xs
all_in set xs right found = (
  λ told. AllPass-from_list_all (has_character set) xs (sym found ∙ told),
  λ each. found ∙ list_all-from_AllPass (has_character set) xs each,
)

-- the numbers of the pairs, as units, are the characters
pub units_of_pairs : (octets units : List ℕ)
    → units ≡ map (from_be_bytes w16) (first_chunks 2 (length octets / 2) octets)
    → map (λ (x : ℕ). x) units ≡ map unsigned (pieces 2 octets)
units_of_pairs octets units is = map-id units ∙ is ∙ sym (pairs octets)

-- a set of one range has what lies between its ends
pub between_in : (name : CharacterSetName) (first last : ℕ) (xs : List ℕ) → ranges_of name ≡ (first, last) ∷ []
    → All (λ c. (first ≤ c) × (c ≤ last)) xs ↔ All (λ c. has_character (base_set name) c ≡ true) xs
between_in name first last xs one = (to, from)
  where
    is : (c : ℕ) → has_character (base_set name) c ≡ ((leb first c && leb c last) || false)
    is c = has_in_base name c ∙ rw one refl

    to : All (λ c. (first ≤ c) × (c ≤ last)) xs → All (λ c. has_character (base_set name) c ≡ true) xs
    to between k d lt = let ends = between k d lt in is (get_or xs k d) ∙ grind (arith, nat_tests)

    from : All (λ c. has_character (base_set name) c ≡ true) xs → All (λ c. (first ≤ c) × (c ≤ last)) xs
    from held k d lt =
        let here : ((leb first (get_or xs k d) && leb (get_or xs k d) last) || false) ≡ true = sym (is (get_or xs k d))
        ∙ held k d lt in
        (grind (arith, nat_tests), grind (arith, nat_tests))

-- and where it begins at 0, what is not above its last
pub low_in : (name : CharacterSetName) (last : ℕ) (xs : List ℕ) → ranges_of name ≡ (0, last) ∷ []
    → IsTrue (leb (largest xs) last) ↔ All (λ c. has_character (base_set name) c ≡ true) xs
low_in name last xs one = both (low, high) (between_in name 0 last xs one)
  where
    low : leb (largest xs) last ≡ true → All (λ c. (0 ≤ c) × (c ≤ last)) xs
    low told k d lt = let top = no_larger xs k d lt in (omega arith, grind (arith, nat_tests))

    high : All (λ c. (0 ≤ c) × (c ≤ last)) xs → leb (largest xs) last ≡ true
    high between =
        let within = largest_within xs last (λ i lt. (between i 0 lt).1) in grind (arith, nat_tests)

-- how far an octet is from a first one, modulo 256
abbrev pub distance_from : ℕ → ℕ → ℕ
distance_from first octet = (octet + (256 - first)) % 256

-- octets lie between two ends where none is further from the first than the last
pub near_is_between : (octets : List ℕ) (first last : ℕ) → ((k : ℕ) → get_or octets k 0 < 256) → first ≤ last
    → last < 256
    → IsTrue (leb (largest (map (distance_from first) octets)) (last - first))
    ↔ All (λ c. (first ≤ c) × (c ≤ last)) octets
near_is_between octets first last small ordered fits = (near, between)
  where
    at : (k : ℕ) → k < length octets → get_or (map (distance_from first) octets) k 0
        ≡ distance_from first (get_or octets k 0)
    at k lt = get_or-map (distance_from first) octets k 0 0 lt

    near : leb (largest (map (distance_from first) octets)) (last - first) ≡ true
        → All (λ c. (first ≤ c) × (c ≤ last)) octets
    near told k d lt =
        let long = length-map octets (distance_from first) in
        let top = no_larger (map (distance_from first) octets) k 0 (omega arith) in
        let same = at k lt in
        let fit = small k in
        let low : largest (map (distance_from first) octets) ≤ last - first = grind (arith, nat_tests) in
        rw (get_or_default octets k d 0 lt) (omega arith, omega arith)

    between : All (λ c. (first ≤ c) × (c ≤ last)) octets
        → leb (largest (map (distance_from first) octets)) (last - first) ≡ true
    between ends =
        let long = length-map octets (distance_from first) in
        let within =
        largest_within (map (distance_from first) octets) (last - first)
        (λ i lt.
        let in_octets : i < length octets = omega arith in
        let h = ends i 0 in_octets in
        let low = h.0 in
        let high = h.1 in
        let same = at i in_octets in
        omega arith) in
        grind (arith, nat_tests)

-- octets whose characters the set has are a string
pub string_of_whole : (name : CharacterSetName) (w : ℕ) (octets : List ℕ) → w ≢ 0 → length octets % w ≡ 0
    → All (λ c. has_character (base_set name) c ≡ true) (map unsigned (pieces w octets))
    → string_of_octets name w octets ≡ Ok (map unsigned (pieces w octets))
string_of_whole name w octets some even right =
    let width : eqb w 0 ≡ false = grind (arith, nat_tests) in
    rw (width, even) (string_of_right name (map unsigned (pieces w octets)) (λ k h. right k 0 h))
