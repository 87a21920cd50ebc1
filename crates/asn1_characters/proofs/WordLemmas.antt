-- The words have the bits of the sets.
use Rattle.std.proofs.Common.{◌≡◌, ℕ, suc, zero, ◌+◌, ◌<◌, ◌≤◌, Bool, true, false, cond, not, ◌&&◌, leb, ltb, List, refl, sym, ◌∙◌, arith, inl, inr}
use Rattle.std.specs.Prelude.{◌⊎◌, ◌≢◌}
use Rattle.std.proofs.lemmas.Bool.{cases_lt}
use Rattle.std.proofs.lemmas.Bool.Decides.{nat_tests}
use Rattle.std.proofs.Common.{set}
use Rattle.std.proofs.Math.Pow.{pow_mono}
use Rattle.std.proofs.lemmas.List.{get_or-set_same, get_or-set_other}
use Rattle.std.specs.Int.{bit_at}
use Rattle.std.proofs.Common.{eqb, ◌||◌, ◌/◌, ◌%◌, ◌^◌, ◌*◌, length, get_or, bit_or}
use Rattle.std.proofs.lemmas.Nat.Bits.{bit_at_or, bit_at-lt, bit_at-pow_same, bit_at-pow_other}
use Rattle.asn1_characters.specs.Sets.{ranges_of, base_set, has_character}
use Rattle.asn1_characters.specs.Laws.SetLaws.{lies_in, has_in_base, below_limit, all_below}
use Rattle.asn1_characters.specs.Words.{in_words}
use Rattle.asn1_characters.specs.declared.character_set.CharacterSetName.{CharacterSetName}
use Rattle.asn1_characters.specs.declared.character_set.CharacterSetName.TheVariants.{Bmp, General, Graphic, IA5, Numeric, Printable, Teletex, Visible}

abbrev pub same_bit : Bool → Bool → Bool
same_bit a b = cond a b (not b)

bits_same : (a b : Bool) → same_bit a b ≡ true → a ≡ b
bits_same true true e = refl
bits_same true false e = cc
bits_same false true e = cc
bits_same false false e = refl

-- a test and ranges agree on `n` characters from `c` on
abbrev pub agree_from : ℕ → ℕ → (ℕ → Bool) → List (ℕ × ℕ) → Bool
agree_from c zero test ranges = true
agree_from c (suc n) test ranges = same_bit (test c) (lies_in ranges c) && agree_from (c + 1) n test ranges

agree_at : (n a c : ℕ) (test : ℕ → Bool) (ranges : List (ℕ × ℕ)) → agree_from a n test ranges ≡ true → a ≤ c → c < a + n
    → test c ≡ lies_in ranges c
agree_at zero a c test ranges agree low high = absurd (omega arith)
agree_at (suc n) a c test ranges agree low high =
    elim (cases_eq a c low) [
      | inl here ↦ (let e : same_bit (test a) (lies_in ranges a) ≡ true =
          grind (arith, nat_tests) in rw (sym here) (bits_same (test a) (lies_in ranges a) e))
      | inr later ↦ agree_at n (a + 1) c test ranges (grind (arith, nat_tests)) later (omega arith)
    ]
  where
    cases_eq : (a c : ℕ) → a ≤ c → (a ≡ c) ⊎ (a + 1 ≤ c)
    cases_eq a c le = elim (cases_lt a c) [ inl lt ↦ inr (omega arith) | inr ge ↦ inl (omega arith) ]

-- where they agree below 256
pub same_below : (test : ℕ → Bool) (ranges : List (ℕ × ℕ)) (c : ℕ) → agree_from 0 256 test ranges ≡ true → c < 256
    → test c ≡ lies_in ranges c
same_below test ranges c agree lt = agree_at 256 0 c test ranges agree (omega arith) (omega arith)

-- where words and ranges agree below 256, a bit says whether the character is in the set
pub words_right : (name : CharacterSetName) (words : List ℕ) (c : ℕ)
    → agree_from 0 256 (in_words words) (ranges_of name) ≡ true → c < 256
    → in_words words c ≡ has_character (base_set name) c
words_right name words c agree lt =
    same_below (in_words words) (ranges_of name) c agree lt ∙ sym (has_in_base name c)

small_base : (name : CharacterSetName) → name ≢ Bmp → all_below 256 (ranges_of name) ≡ true
small_base Bmp other = absurd (other refl)
small_base General other = refl
small_base Graphic other = refl
small_base IA5 other = refl
small_base Numeric other = refl
small_base Printable other = refl
small_base Teletex other = refl
small_base Visible other = refl

none_is : (b : Bool) → (b ≡ true → ⊥) → b ≡ false
none_is true none = absurd (none refl)
none_is false none = refl

-- from 256 on no character is in a set but that of `BmpString`
pub none_above : (name : CharacterSetName) (c : ℕ) → name ≢ Bmp → 256 ≤ c → has_character (base_set name) c ≡ false
none_above name c other ge =
    none_is (has_character (base_set name) c)
    (λ h. let lt = below_limit name 256 (small_base name other) c h in omega arith)

-- the words of a set tell what it has, below 256 and above
pub has_by_words : (name : CharacterSetName) (words : List ℕ) (c : ℕ) → name ≢ Bmp
    → ((c : ℕ) → c < 256 → in_words words c ≡ has_character (base_set name) c)
    → (ltb c 256 && in_words words c) ≡ has_character (base_set name) c
has_by_words name words c other same = elim (cases_lt c 256) [
  | inl lt ↦ (let below : ltb c 256 ≡ true = grind (arith, nat_tests) in rw below (same c lt))
  | inr ge ↦ (let above : ltb c 256 ≡ false = grind (arith, nat_tests) in rw above (sym (none_above name c other ge)))
]

bmp_lies : (c : ℕ) → leb c 65533 ≡ lies_in (ranges_of Bmp) c
bmp_lies c = grind (arith, nat_tests)

pub bmp_is : (c : ℕ) → leb c 65533 ≡ has_character (base_set Bmp) c
bmp_is c = bmp_lies c ∙ sym (has_in_base Bmp c)

-- the bit of a character in a word, where one more bit is set
more_bit : (w n c : ℕ) → (eqb (bit_at (bit_or w (2 ^ n)) c) 1) ≡ (eqb n c || eqb (bit_at w c) 1)
more_bit w n c = by_case (same_or_not n c)
  where
    same_or_not : (n c : ℕ) → (n ≡ c) ⊎ (n ≢ c)
    same_or_not n c =
        elim (cases_lt n c) [
          | inl lt ↦ inr (λ e. omega arith)
          | inr ge ↦ elim (cases_lt c n)
              [ inl lt ↦ inr (λ e. omega arith) | inr le ↦ inl (omega arith) ]
        ]

    by_case : (n ≡ c) ⊎ (n ≢ c) → (eqb (bit_at (bit_or w (2 ^ n)) c) 1) ≡ (eqb n c || eqb (bit_at w c) 1)
    by_case (inl same) =
        let one : bit_at (2 ^ n) c ≡ 1 = rw (sym same) (bit_at-pow_same n) in
        let small = bit_at-lt w c in
        rw (bit_at_or w (2 ^ n) c, one) (grind (arith, nat_tests))
    by_case (inr other) =
        let none : bit_at (2 ^ n) c ≡ 0 = bit_at-pow_other n c (λ e. other (sym e)) in
        rw (bit_at_or w (2 ^ n) c, none) (grind (arith, nat_tests))

-- one bit of a word
pub one_bit : (k : ℕ) → k < 64 → 1 * 2 ^ k % 18446744073709551616 ≡ 2 ^ k
one_bit k lt =
    let up : 2 ^ k ≤ 2 ^ 63 = pow_mono (let le : k ≤ 63 = omega arith in le) in
    omega arith

-- the words with the bit of one more character
pub words_with : (words : List ℕ) (n c : ℕ) → n / 64 < length words
    → in_words (set words (n / 64) (bit_or (get_or words (n / 64) 0) (2 ^ (n % 64)))) c ≡ (eqb n c || in_words words c)
words_with words n c within = by_case (cases_lt (n / 64) (c / 64))
  where
    by_case : (n / 64 < c / 64) ⊎ (c / 64 ≤ n / 64)
        → in_words (set words (n / 64) (bit_or (get_or words (n / 64) 0) (2 ^ (n % 64))))
        c ≡ (eqb n c || in_words words c)
    by_case (inl lt) =
        let apart : eqb n c ≡ false = grind (arith, nat_tests) in
        rw (
          get_or-set_other words (n / 64) (c / 64) (bit_or (get_or words (n / 64) 0) (2 ^ (n % 64))) 0
              (λ e. omega arith),
          apart,
        ) refl
    by_case (inr le) = elim (cases_lt (c / 64) (n / 64)) [
      | inl lt ↦ (let apart : eqb n c ≡ false = grind (arith, nat_tests) in
          rw (
            get_or-set_other words (n / 64) (c / 64) (bit_or (get_or words (n / 64) 0) (2 ^ (n % 64))) 0
                (λ e. omega arith),
            apart,
          ) refl)
      | inr ge ↦ (let same : c / 64 ≡ n / 64 = omega arith in
          let tests : eqb n c ≡ eqb (n % 64) (c % 64) = grind (arith, nat_tests) in
          rw (same, get_or-set_same words (n / 64) (bit_or (get_or words (n / 64) 0) (2 ^ (n % 64))) 0 within, tests)
          (more_bit (get_or words (n / 64) 0) (n % 64) (c % 64)))
    ]

-- the test of an octet by ranges of `PrintableString`
abbrev pub is_printable : ℕ → Bool
is_printable c =
    leb 97 (bit_or c 32) && leb (bit_or c 32) 122 || leb 39 c && leb c 58 && not (eqb c 42) || eqb c 32 || eqb c 61 ||
    eqb c 63
