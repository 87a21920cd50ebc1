-- Laws of the least width.
use Rattle.std.proofs.Common.{◌≡◌, ℕ, suc, zero, ◌+◌, ◌*◌, ◌%◌, ◌^◌, ◌<◌, ◌≤◌, Bool, true, false, leb, refl, ap, ◌∙◌, arith, inl, inr}
use Rattle.std.proofs.lemmas.Bool.{cases_lt}
use Rattle.std.proofs.Math.Pow.{pow_mono}
use Rattle.std.proofs.lemmas.Nat.{pow-add}
use Rattle.std.proofs.lemmas.Bool.Decides.{nat_tests}
use Rattle.asn1_characters.specs.Widths.{IsLeastWidth, least_from, ceil_log2}

-- one more bit
pub twice : (w : ℕ) → 2 ^ (w + 1) ≡ 2 ^ w * 2
twice w = pow-add 2 w 1

below_pow : (n : ℕ) → n < 2 ^ n
below_pow zero = omega arith
below_pow (suc n) =
    let below = below_pow n in
    let more : 2 ^ suc n ≡ 2 ^ n * 2 = ap (λ e. 2 ^ e) (let e : suc n ≡ n + 1 = omega arith in e) ∙ twice n in
    omega arith

-- what is too few codes is a smaller width
pub too_few : (n w v : ℕ) → 2 ^ w < n → n ≤ 2 ^ v → w + 1 ≤ v
too_few n w v few enough =
    elim (cases_lt w v) [ inl lt ↦ omega arith | inr le ↦ absurd (let up = pow_mono le in omega arith) ]

pick : (b : Bool) (w r goal : ℕ) → (b ≡ true → w ≡ goal) → (b ≡ false → r ≡ goal) →
    ◌≡◌ {A = ℕ} (elim b as (λ x. ℕ) [ true ↦ w | false ↦ r ]) goal
pick true w r goal first second = first refl
pick false w r goal first second = second refl

same_width : (w n goal : ℕ) → IsLeastWidth n goal → w ≤ goal → leb n (2 ^ w) ≡ true → w ≡ goal
same_width w n goal is low e =
    let enough : n ≤ 2 ^ w = grind (arith, nat_tests) in
    omega (arith, is.least w enough)

next_width : (w n goal : ℕ) → IsLeastWidth n goal → leb n (2 ^ w) ≡ false → w + 1 ≤ goal
next_width w n goal is e = too_few n w goal (grind (arith, nat_tests)) is.enough

found : (more w n goal : ℕ) → IsLeastWidth n goal → w ≤ goal → goal ≤ w + more →
    least_from more w n ≡ goal
unfolding least_from
found zero w n goal is low high = omega arith
found (suc more) w n goal is low high =
    pick (leb n (2 ^ w)) w (least_from more (w + 1) n) goal (λ e. same_width w n goal is low e)
    (λ e. let up = next_width w n goal is e in found more (w + 1) n goal is up (omega arith))

-- a least width is the one that is defined
pub ceil_log2_is : (n w : ℕ) → IsLeastWidth n w → ceil_log2 n ≡ w
unfolding ceil_log2
ceil_log2_is n w is =
    found n 0 n w is (omega arith) (let below = below_pow n in omega (arith, is.least n (omega arith)))

-- the number of codes of a width
pub codes_small : (w : ℕ) → w ≤ 32 → 1 * 2 ^ w % 18446744073709551616 ≡ 2 ^ w
codes_small w narrow =
    let up : 2 ^ w ≤ 2 ^ 32 = pow_mono narrow in
    omega arith

-- a width of at most 32 is at most 2 ^ 5
pub few_codes : (n w : ℕ) → n ≤ 32 → IsLeastWidth n w → 2 ^ w ≤ 32
few_codes n w small is = let low = is.least 5 (omega arith) in let up : 2 ^ w ≤ 2 ^ 5 = pow_mono low in omega arith

choose : (b : Bool) (w r n : ℕ) → (b ≡ true → IsLeastWidth n w) → (b ≡ false → IsLeastWidth n r) →
    IsLeastWidth n (elim b as (λ x. ℕ) [ true ↦ w | false ↦ r ])
choose true w r n first second = first refl
choose false w r n first second = second refl

least_above : (more w n : ℕ) → n ≤ 2 ^ (w + more) → ((v : ℕ) → n ≤ 2 ^ v → w ≤ v) →
    IsLeastWidth n (least_from more w n)
unfolding least_from
least_above zero w n enough least = record { enough = let e : w + 0 ≡ w = omega arith in rw e at enough; least = least }
least_above (suc more) w n enough least =
    choose (leb n (2 ^ w)) w (least_from more (w + 1) n) n
    (λ e. record { enough = grind (arith, nat_tests); least = least })
    (λ e.
    let few : 2 ^ w < n = grind (arith, nat_tests) in
    let up : w + suc more ≡ w + 1 + more = omega arith in
    least_above more (w + 1) n (rw up at enough) (λ v h. too_few n w v few h))

-- `ceil_log2` is the least width
pub ceil_log2_is_least : (n : ℕ) → IsLeastWidth n (ceil_log2 n)
unfolding ceil_log2
ceil_log2_is_least n =
    let below = below_pow n in
    let e : 0 + n ≡ n = omega arith in
    least_above n 0 n (rw e (let le : n ≤ 2 ^ n = omega arith in le)) (λ v h. omega arith)
