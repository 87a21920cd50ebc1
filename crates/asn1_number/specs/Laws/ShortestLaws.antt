-- Each number has shortest octets.
use Rattle.std.proofs.Common.{◌≡◌, ℕ, zero, suc, ◌+◌, ◌-◌, ◌*◌, ◌^◌, ◌<◌, ◌≤◌, ℤ, pos, negsuc, List, [], ◌∷◌, length, ap, subst, ◌∙◌, arith, ⊎_elim, zero-add}
use Rattle.std.specs.Prelude.{nat_le}
use Rattle.std.specs.List.{prefix_len, range_with_len}
use Rattle.std.proofs.lemmas.Bool.{cases_lt, cond-true, cond-false, lt-ltb, le-ltb, le-leb, lt-leb}
use Rattle.std.specs.Int.{bytes_high_first}
use mir.Val.{sel}
use lib.Dec.{leb}
use lib.Signed.{mag}
use borrow.Author.Differences.{up, down, mag_is}
use Rattle.asn1_number.specs.Octets.{IsOctets, signed, IsShortest}
use Rattle.asn1_number.specs.Shortest.{octets_past_first, residue_at, shortest_octets}
use Rattle.asn1_number.specs.Laws.OctetLaws.{signed_range, one_part, power_step, shortest_once}
use Rattle.asn1_number.specs.Laws.WidthLaws.{signed-bytes, length-bytes, octets_of_bytes}
use Rattle.asn1_number.specs.Laws.ReadingLaws.{cases_le}

-- how many of the `turns` numbers from k on are too few
abbrev past_from : ℕ → ℕ → ℤ → ℕ
past_from k turns z = prefix_len (λ j. nat_le (128 * 256 ^ j) (mag z)) (range_with_len k turns)

above_its_place : (k : ℕ) → k < 256 ^ k
above_its_place zero = omega arith
above_its_place (suc k) = omega (arith, above_its_place k, power_step k)

-- the search stops at the first k that is enough
past_first_holds : (turns k : ℕ) (z : ℤ) → mag z ≤ k + turns → mag z < 128 * 256 ^ (k + past_from k turns z)
past_first_holds zero k z h =
    let e : k ≡ k + past_from k 0 z = omega arith in
    subst (λ x. mag z < 128 * 256 ^ x) e (omega (arith, above_its_place k))
past_first_holds (suc turns) k z h =
    ⊎_elim
    (λ l.
    let e : past_from k (suc turns) z ≡ 1 + past_from (k + 1) turns z =
    cond-true (leb (128 * 256 ^ k) (mag z)) _ _ (le-leb _ _ l) in
    let f : k + 1 + past_from (k + 1) turns z ≡ k + past_from k (suc turns) z = omega arith in
    subst (λ x. mag z < 128 * 256 ^ x) f (past_first_holds turns (k + 1) z (omega arith)))
    (λ l.
    let e : past_from k (suc turns) z ≡ 0 = cond-false (leb (128 * 256 ^ k) (mag z)) _ _ (lt-leb _ _ l) in
    let f : k ≡ k + past_from k (suc turns) z = omega arith in
    subst (λ x. mag z < 128 * 256 ^ x) f l)
    (cases_le (128 * 256 ^ k) (mag z))

-- and those before it are too few
fewer_do_not : (turns k : ℕ) (z : ℤ) (j : ℕ) → k ≤ j → j < k + past_from k turns z → 128 * 256 ^ j ≤ mag z
fewer_do_not zero k z j p l = absurd (omega arith)
fewer_do_not (suc turns) k z j p l =
    ⊎_elim
    (λ m.
    let e : past_from k (suc turns) z ≡ 1 + past_from (k + 1) turns z =
    cond-true (leb (128 * 256 ^ k) (mag z)) _ _ (le-leb _ _ m) in
    ⊎_elim (λ s. fewer_do_not turns (k + 1) z j (omega arith) (omega arith))
    (λ s. let f : k ≡ j = omega arith in subst (λ x. 128 * 256 ^ x ≤ mag z) f m) (cases_lt k j))
    (λ m.
    let e : past_from k (suc turns) z ≡ 0 = cond-false (leb (128 * 256 ^ k) (mag z)) _ _ (lt-leb _ _ m) in
    absurd (omega arith))
    (cases_le (128 * 256 ^ k) (mag z))

pub past_first_enough : (z : ℤ) → mag z < 128 * 256 ^ octets_past_first z
past_first_enough z =
    subst (λ x. mag z < 128 * 256 ^ x) (zero-add (octets_past_first z))
    (past_first_holds (suc (mag z)) 0 z (omega arith))

pub past_first_few : (z : ℤ) (i : ℕ) → i < octets_past_first z → 128 * 256 ^ i ≤ mag z
past_first_few z i l = fewer_do_not (suc (mag z)) 0 z i (omega arith) (omega arith)

-- the count is known by its bounds
pub past_first_only : (k : ℕ) (z : ℤ) → mag z < 128 * 256 ^ k → ((i : ℕ) → i < k → 128 * 256 ^ i ≤ mag z)
    → k ≡ octets_past_first z
past_first_only k z h f =
    ⊎_elim
    (λ l. absurd (let e = fewer_do_not (suc (mag z)) 0 z k (omega arith) (omega arith) in omega arith))
    (λ l. ⊎_elim (λ m. absurd (let e = f (octets_past_first z) m in omega (arith, past_first_enough z)))
    (λ m. omega arith) (cases_lt (octets_past_first z) k))
    (cases_lt k (octets_past_first z))

value_at : (k : ℕ) (z : ℤ) → mag z < 128 * 256 ^ k → signed (bytes_high_first (suc k) (residue_at (suc k) z)) ≡ z
value_at k (pos n) h =
    let s = power_step k in
    signed-bytes k n (omega arith) ∙ ap (λ t. sel t (pos n) (negsuc (256 ^ suc k - suc n))) (lt-ltb n (128 * 256 ^ k) h)
value_at k (negsuc n) h =
    let s = power_step k in
    signed-bytes k (256 ^ suc k - suc n) (omega arith)
    ∙ (ap (λ t. sel t (pos (256 ^ suc k - suc n)) (negsuc (256 ^ suc k - suc (256 ^ suc k - suc n))))
    (le-ltb (256 ^ suc k - suc n) (128 * 256 ^ k) (omega arith))
    ∙ ap negsuc (let e : 256 ^ suc k - suc (256 ^ suc k - suc n) ≡ n = omega arith in e))

pub shortest_octets_are : (z : ℤ) → IsShortest z (shortest_octets z)
unfolding shortest_octets
shortest_octets_are z = record {
  octets = octets_of_bytes (suc (octets_past_first z)) (residue_at (suc (octets_past_first z)) z);
  some = omega arith;
  value = value_at (octets_past_first z) z (past_first_enough z);
  least = least;
}
  where
    least : (other : List ℕ) → IsOctets other → 0 < length other → signed other ≡ z →
        length (bytes_high_first (suc (octets_past_first z)) (residue_at (suc (octets_past_first z)) z)) ≤ length other
    least [] h some e = absurd (omega arith)
    least (x ∷ xs) h some e =
        let l = length-bytes (octets_past_first z) (residue_at (suc (octets_past_first z)) z) in
        let r = signed_range x xs h in
        let eu : up (signed (x ∷ xs)) ≡ up z = ap up e in
        let ed : down (signed (x ∷ xs)) ≡ down z = ap down e in
        let m = mag_is z in
        let one = one_part z in
        ⊎_elim
        (λ s. absurd (let f =
        fewer_do_not (suc (mag z)) 0 z (length xs) (omega arith) (omega arith) in ⊎_elim (λ o. omega arith)
        (λ o. omega arith) one))
        (λ s. omega arith)
        (cases_lt (length xs) (octets_past_first z))

pub shortest_octets_only : (z : ℤ) (o : List ℕ) → IsShortest z o → o ≡ shortest_octets z
shortest_octets_only z o s = shortest_once z o (shortest_octets z) s (shortest_octets_are z)
