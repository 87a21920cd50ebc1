-- Lists of characters without a gap.
use Rattle.std.proofs.Common.{◌≡◌, ℕ, ◌+◌, ◌-◌, ◌%◌, ◌^◌, ◌<◌, ◌≤◌, Bool, true, false, ◌&&◌, leb, ltb, List, [], ◌∷◌, length, get_or, Some, refl, ap, sym, ◌∙◌, arith}
use Rattle.std.proofs.lemmas.Bool.Decides.{nat_tests}
use Rattle.std.specs.List.{range_with_len, slice_get}
use Rattle.std.specs.List.Sorted.{IsNonDecreasing}
use Rattle.std.proofs.lemmas.List.{ext_get_or}
use Rattle.std.proofs.lemmas.List.FromFn.{length-range_with_len, get_or-range_with_len}
use Rattle.std.proofs.lemmas.Option.{slice_get-get_or}
use Rattle.asn1_characters.specs.Sets.{has_character, largest}
use Rattle.asn1_characters.specs.Laws.SetLaws.{has_in_run}
use Rattle.asn1_characters.specs.Laws.TableLaws.{run_largest}
use Rattle.asn1_alphabets.specs.AlphabetInMemory.{IsRun}

-- some characters, each as far from the first as its index
pub run_from_places : (set : List ℕ) (first : ℕ) → 0 < length set → first + length set < 2 ^ 32
    → ((k : ℕ) → k < length set → get_or set k 0 ≡ first + k) → IsRun set
run_from_places set first some room each =
    let is : get_or set 0 0 ≡ first = each 0 some ∙ (let e : first + 0 ≡ first = omega arith in e) in
    record {
      some = some;
      gapless = rw is (ext_get_or 0 set (range_with_len first (length set))
          (sym (length-range_with_len first (length set)))
          (λ k lt. each k lt ∙ sym (get_or-range_with_len first (length set) k 0 lt)));
      ends = rw is room;
    }

-- the entry at an index of a run
pub run_entry : (set : List ℕ) (k : ℕ) → IsRun set → k < length set → get_or set k 0 ≡ get_or set 0 0 + k
run_entry set k run lt =
    ap (λ s. get_or s k 0) run.gapless ∙ get_or-range_with_len (get_or set 0 0) (length set) k 0 lt

-- what is not false is true
pub told_true : (b : Bool) → (b ≡ false → ⊥) → b ≡ true
told_true true none = refl
told_true false none = absurd (none refl)

-- the character at an index of a range
pub range_at : (first count k : ℕ) → k < count → slice_get (range_with_len first count) k ≡ Some (first + k)
range_at first count k lt =
    let long = length-range_with_len first count in
    slice_get-get_or (range_with_len first count) k 0 (omega arith)
    ∙ ap Some (get_or-range_with_len first count k 0 lt)

-- how far a character is from the first, where 2^32 wraps to 0
abbrev pub distance : ℕ → ℕ → ℕ
distance first c = (c + (2 ^ 32 - first)) % 2 ^ 32

-- a character that is less far from the first than there are is at that index
pub run_place_at : (first count c : ℕ) → 0 < count → first + count < 2 ^ 32 → c < 2 ^ 32 → distance first c < count
    → slice_get (range_with_len first count) (distance first c) ≡ Some c
run_place_at first count c some room small near = range_at first count (distance first c) near ∙ ap Some (omega arith)

-- a character that is further is not in the range
pub run_far_at : (first count c : ℕ) → 0 < count → first + count < 2 ^ 32 → c < 2 ^ 32 → count ≤ distance first c
    → has_character (range_with_len first count) c ≡ false
run_far_at first count c some room small far =
    let out : (leb first c && ltb c (first + count)) ≡ false = grind (arith, nat_tests) in
    has_in_run first count c ∙ out

-- a run never falls
pub run_rises : (set : List ℕ) → IsRun set → IsNonDecreasing set
run_rises set run i j d le lt =
    let first = get_or set 0 0 in
    let low : get_or set i d ≡ first + i = ap (λ s. get_or s i d) run.gapless
    ∙ get_or-range_with_len first (length set) i d (omega arith) in
    let high : get_or set j d ≡ first + j = ap (λ s. get_or s j d) run.gapless
    ∙ get_or-range_with_len first (length set) j d lt in
    omega arith

-- the last character of a run is its largest
pub run_ends : (set : List ℕ) → IsRun set → get_or set (length set - 1) 0 ≡ largest set
run_ends [] run = absurd (omega (arith, run.some))
run_ends (x ∷ xs) run =
    let n = length xs in
    let at : length (x ∷ xs) - 1 ≡ n = omega arith in
    let place : get_or (x ∷ xs) n 0 ≡ x + n = ap (λ s. get_or s n 0) run.gapless
    ∙ get_or-range_with_len x (length (x ∷ xs)) n 0 (omega arith) in
    let most : largest (x ∷ xs) ≡ x + n = ap largest run.gapless ∙ run_largest n 0 x ∙ omega arith in
    rw at (place ∙ sym most)
