-- Binary search.
use Rattle.std.proofs.Common.{◌≡◌, ℕ, suc, zero, ◌+◌, ◌-◌, ◌*◌, ◌/◌, ◌^◌, ◌<◌, ◌≤◌, false, eqb, List, [], ◌∷◌, length, get_or, refl, ap, ◌∙◌, arith, inl, inr}
use Rattle.std.proofs.Math.Pow.{pow_pos}
use Rattle.std.proofs.lemmas.Bool.{cases_lt}
use Rattle.std.proofs.lemmas.Bool.Decides.{nat_tests}
use Rattle.asn1_characters.specs.Sets.{has_character}
use Rattle.asn1_characters.specs.Widths.{ceil_log2}
use Rattle.std.specs.Prelude.{◌≢◌}
use Rattle.std.specs.List.{AllPairs}
use Rattle.std.specs.List.Sorted.{IsNonDecreasing}
use Rattle.std.proofs.lemmas.List.{get_or_default}
use Rattle.asn1_characters.specs.Laws.WidthLaws.{twice, ceil_log2_is_least}

-- where a character is sought, and how many probes are left
pub record Searching (list : List ℕ) (low high character start probes limit : ℕ) : Type 0 where
  pub ordered : low ≤ high
  pub within : high ≤ length list
  pub below : (k : ℕ) → k < low → get_or list k 0 < character
  pub above : (k : ℕ) → high ≤ k → k < length list → character < get_or list k 0
  pub since : start ≤ probes
  pub budget : ℕ
  pub spent : probes + budget ≡ limit
  pub narrow : high - low < 2 ^ budget

-- half of what is left, with a probe less
pub record Half (m budget : ℕ) : Type 0 where
  pub left : ℕ
  pub one_less : left + 1 ≡ budget
  pub narrow : m < 2 ^ left

halved : (m half budget : ℕ) → 0 < m → 2 * half ≤ m → m < 2 ^ budget → Half half budget
halved m half zero some le lt = absurd (omega arith)
halved m half (suc b) some le lt =
    let grown : 2 ^ suc b ≡ 2 ^ b * 2 = ap (λ e. 2 ^ e) (let e : suc b ≡ b + 1 = omega arith in e) ∙ twice b in
    record { left = b; one_less = omega arith; narrow = omega arith }

pub starts : (list : List ℕ) (character probes : ℕ)
    → Searching list 0 (length list) character probes probes (probes + (ceil_log2 (length list) + 1))
starts list character probes =
    let w = ceil_log2 (length list) in
    let least = ceil_log2_is_least (length list) in
    let grown = twice w in
    let enough = least.enough in
    let some : 0 < 2 ^ w = pow_pos w in
    record {
      ordered = omega arith;
      within = omega arith;
      below = λ k h. absurd (omega arith);
      above = λ k h i. absurd (omega arith);
      since = omega arith;
      budget = w + 1;
      spent = omega arith;
      narrow = omega arith;
    }

-- the upper half
pub goes_up : (list : List ℕ) (low high character start probes limit : ℕ) → IsNonDecreasing list
    → Searching list low high character start probes limit → low < high
    → get_or list (low + (high - low) / 2) 0 < character
    → Searching list (low + (high - low) / 2 + 1) high character start (probes + 1) limit
goes_up list low high character start probes limit rises s some less =
    let half =
    halved (high - low) (high - (low + (high - low) / 2 + 1)) s.budget (omega arith) (omega arith) s.narrow in
    record {
      ordered = omega arith;
      within = s.within;
      below = λ k h. let up = rises k (low + (high - low) / 2) 0 (omega arith) (omega (arith, s.within)) in omega arith;
      above = s.above;
      since = omega (arith, s.since);
      budget = half.left;
      spent = omega (arith, s.spent, half.one_less);
      narrow = half.narrow;
    }

-- the lower half
pub goes_down : (list : List ℕ) (low high character start probes limit : ℕ) → IsNonDecreasing list
    → Searching list low high character start probes limit → low < high
    → character < get_or list (low + (high - low) / 2) 0
    → Searching list low (low + (high - low) / 2) character start (probes + 1) limit
goes_down list low high character start probes limit rises s some more =
    let half = halved (high - low) (low + (high - low) / 2 - low) s.budget (omega arith) (omega arith) s.narrow in
    record {
      ordered = omega arith;
      within = omega (arith, s.within);
      below = s.below;
      above = λ k h i. let up = rises (low + (high - low) / 2) k 0 (omega arith) i in omega arith;
      since = omega (arith, s.since);
      budget = half.left;
      spent = omega (arith, s.spent, half.one_less);
      narrow = half.narrow;
    }

absent : (list : List ℕ) (c : ℕ) → ((k : ℕ) → k < length list → eqb (get_or list k 0) c ≡ false)
    → has_character list c ≡ false
absent [] c none = refl
absent (x ∷ list) c none = rw (none 0 (omega arith)) (absent list c (λ k h. none (suc k) (omega arith)))

-- nothing is left
pub nowhere : (list : List ℕ) (low high character start probes limit : ℕ)
    → Searching list low high character start probes limit → high ≤ low → has_character list character ≡ false
nowhere list low high character start probes limit s done =
    absent list character (λ k h. elim (cases_lt k low) [
      | inl lt ↦ (let less = s.below k lt in grind (arith, nat_tests))
      | inr le ↦
          (let more = s.above k (omega arith) h in grind (arith, nat_tests))
    ])

-- while something is left, so is a probe
pub one_more : (list : List ℕ) (low high character start probes limit : ℕ)
    → Searching list low high character start probes limit → low < high → probes + 1 ≤ limit
one_more list low high character start probes limit s some =
    let half =
    halved (high - low) 0 s.budget (omega arith) (omega arith) s.narrow in omega (arith, s.spent, half.one_less)

-- what rises from each entry to the next never falls
rises_by : (xs : List ℕ) → ((k : ℕ) → k + 1 < length xs → get_or xs k 0 ≤ get_or xs (k + 1) 0) → (d i : ℕ)
    → i + d < length xs → get_or xs i 0 ≤ get_or xs (i + d) 0
rises_by xs next zero i lt = let e : i + 0 ≡ i = omega arith in rw e (omega arith)
rises_by xs next (suc d) i lt =
    let before = rises_by xs next d i (omega arith) in
    let step = next (i + d) (omega arith) in
    let e : i + suc d ≡ i + d + 1 = omega arith in
    rw e (omega arith)

pub non_decreasing : (xs : List ℕ) → ((k : ℕ) → k + 1 < length xs → get_or xs k 0 ≤ get_or xs (k + 1) 0)
    → IsNonDecreasing xs
non_decreasing xs next i j d le lt =
    let e : i + (j - i) ≡ j = omega arith in
    let up : get_or xs i 0 ≤ get_or xs j 0 = rw e at (rises_by xs next (j - i) i (omega arith)) in
    rw (get_or_default xs i d 0 (omega arith), get_or_default xs j d 0 lt) up

-- in what never falls any two differ, where neighbours do
pub neighbours_differ : (xs : List ℕ) → IsNonDecreasing xs
    → ((k : ℕ) → k + 1 < length xs → get_or xs k 0 ≢ get_or xs (k + 1) 0) → AllPairs (λ a b. a ≢ b) xs
neighbours_differ xs rises apart i j d lt within =
    let here = rises i (i + 1) d (omega arith) (omega arith) in
    let up = rises (i + 1) j d (omega arith) within in
    let other : get_or xs i d ≢ get_or xs (i + 1) d =
    rw (get_or_default xs i d 0 (omega arith), get_or_default xs (i + 1) d 0 (omega arith))
    (apart i (omega arith)) in
    λ e. other (omega arith)
