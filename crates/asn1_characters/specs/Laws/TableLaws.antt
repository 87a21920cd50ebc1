-- Laws of the table of base sets: how many characters each has, and the largest.
use Rattle.std.proofs.Common.{◌≡◌, ℕ, suc, zero, ◌+◌, ◌-◌, ◌<◌, ◌≤◌, ◌^◌, Bool, true, ◌&&◌, leb, List, [], ◌∷◌, length, max, lit≤, refl, ◌∙◌, arith}
use Rattle.std.specs.Prelude.{◌≢◌}
use Rattle.std.specs.List.{flat_map, range_with_len, fold}
use Rattle.std.proofs.lemmas.List.{length-append}
use Rattle.std.proofs.lemmas.List.FromFn.{length-range_with_len}
use Rattle.std.proofs.lemmas.List.Sums.{fold-append}
use Rattle.std.proofs.lemmas.Bool.Decides.{nat_tests}
use Rattle.asn1_characters.specs.Sets.{ranges_of, base_set, characters_between, largest}
use Rattle.asn1_characters.specs.declared.character_set.CharacterSetName.{CharacterSetName}
use Rattle.asn1_characters.specs.declared.character_set.CharacterSetName.TheVariants.{Bmp, General, Graphic, IA5, Numeric, Printable, Teletex, Visible}

-- how many characters ranges have
abbrev pub counted : List (ℕ × ℕ) → ℕ
counted [] = 0
counted (r ∷ rs) = r.1 + 1 - r.0 + counted rs

pub length_counted : (rs : List (ℕ × ℕ)) → length (flat_map characters_between rs) ≡ counted rs
length_counted [] = refl
length_counted (r ∷ rs) =
    length-append (characters_between r) (flat_map characters_between rs)
    ∙ rw (length-range_with_len r.0 (r.1 + 1 - r.0), length_counted rs) refl

-- a base set has as many characters as its ranges
pub length-base_set : (name : CharacterSetName) → length (base_set name) ≡ counted (ranges_of name)
unfolding base_set
length-base_set name = length_counted (ranges_of name)

-- the largest character of a run is its last
pub run_largest : (n m a : ℕ) → fold max m (range_with_len a (suc n)) ≡ max m (a + n)
run_largest zero m a = omega arith
run_largest (suc n) m a = run_largest n (max m a) (a + 1) ∙ omega arith

between_largest : (m a b : ℕ) → a ≤ b → fold max m (range_with_len a (b + 1 - a)) ≡ max m b
between_largest m a b le =
    let long : b + 1 - a ≡ suc (b - a) = omega arith in rw long (run_largest (b - a) m a ∙ omega arith)

-- each range has a character
abbrev pub none_empty : List (ℕ × ℕ) → Bool
none_empty [] = true
none_empty (r ∷ rs) = leb r.0 r.1 && none_empty rs

-- the largest end of ranges, where it is above m
abbrev pub topmost : ℕ → List (ℕ × ℕ) → ℕ
topmost m [] = m
topmost m (r ∷ rs) = topmost (max m r.1) rs

largest_topmost : (m : ℕ) (rs : List (ℕ × ℕ)) → none_empty rs ≡ true →
    fold max m (flat_map characters_between rs) ≡ topmost m rs
largest_topmost m [] full = refl
largest_topmost m (r ∷ rs) full =
    let some : r.0 ≤ r.1 = grind (arith, nat_tests) in
    let rest : none_empty rs ≡ true = grind (arith, nat_tests) in
    fold-append max m (characters_between r) (flat_map characters_between rs)
    ∙ rw (between_largest m r.0 r.1 some) (largest_topmost (max m r.1) rs rest)

pub none_empty_base : (name : CharacterSetName) → none_empty (ranges_of name) ≡ true
none_empty_base Bmp = refl
none_empty_base General = refl
none_empty_base Graphic = refl
none_empty_base IA5 = refl
none_empty_base Numeric = refl
none_empty_base Printable = refl
none_empty_base Teletex = refl
none_empty_base Visible = refl

-- the largest character of a set is the largest end of its ranges
pub largest-base_set : (name : CharacterSetName) →
    largest (base_set name) ≡ topmost 0 (ranges_of name)
unfolding base_set
largest-base_set name = largest_topmost 0 (ranges_of name) (none_empty_base name)

counted_few : (name : CharacterSetName) → counted (ranges_of name) ≤ 65534
counted_few Bmp = lit≤ tt
counted_few General = lit≤ tt
counted_few Graphic = lit≤ tt
counted_few IA5 = lit≤ tt
counted_few Numeric = lit≤ tt
counted_few Printable = lit≤ tt
counted_few Teletex = lit≤ tt
counted_few Visible = lit≤ tt

-- no set is large
pub few_in_base : (name : CharacterSetName) → length (base_set name) ≤ 2 ^ 32
few_in_base name = let few = counted_few name in rw (length-base_set name) (omega arith)

-- but for `BmpString` no character is 256 or above
pub largest_small : (name : CharacterSetName) → name ≢ Bmp → largest (base_set name) < 256
largest_small Bmp other = absurd (other refl)
largest_small General other = rw (largest-base_set General) (lit≤ tt)
largest_small Graphic other = rw (largest-base_set Graphic) (lit≤ tt)
largest_small IA5 other = rw (largest-base_set IA5) (lit≤ tt)
largest_small Numeric other = rw (largest-base_set Numeric) (lit≤ tt)
largest_small Printable other = rw (largest-base_set Printable) (lit≤ tt)
largest_small Teletex other = rw (largest-base_set Teletex) (lit≤ tt)
largest_small Visible other = rw (largest-base_set Visible) (lit≤ tt)
