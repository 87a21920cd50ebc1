-- Numbers of a few bits, one after another in a word, that are compared at once: a sum has no carry out of a lane where the bit
-- after the lane is that of both terms.
use Rattle.std.proofs.Common.{◌≡◌, ℕ, zero, suc, ◌+◌, ◌-◌, ◌*◌, ◌/◌, ◌%◌, ◌^◌, ◌<◌, ◌≤◌, Bool, List, ◌∷◌, [], take, drop, inl, inr, sym, ◌∙◌, ap, subst, arith}
use Rattle.std.specs.Prelude.{bit_and}
use Rattle.std.specs.Int.Bits.{bit_xor}
use Rattle.std.specs.Int.{bit_at}
use Rattle.std.specs.List.{AllByRecursion}
use Rattle.std.proofs.Math.Nat.{mul_comm, mul-le-mul_left, mul-le-mul_right, mul-div-le, mod-eq_of_lt, lt_of_mul-lt-mul_right, add-mul-mod_self_left, add-mul-div_left, mod-lt}
use Rattle.std.proofs.Math.Pow.{pow_mono, mod-mod-pow, shr_lt}
use Rattle.std.proofs.lemmas.Bool.{cases_lt}
use Rattle.std.proofs.lemmas.List.{length-take}
use Rattle.std.proofs.lemmas.Nat.{pow_pos, le-div, pow-add, shr-shr, shr_high, shr_split, mod-pow-add}
use Rattle.std.proofs.lemmas.Nat.Bits.{bit_at_and, bit_at_xor, bit_at-zero, bit_at-lt}
use Rattle.asn1_bits.specs.Bits.{digits}
use Rattle.asn1_bits.specs.Laws.NumberLaws.{number-below}
use Rattle.asn1_schema.specs.CharactersOfParts.{numbers_in}
use Rattle.asn1_x691_fields.specs.Lanes.{ones}
use Rattle.asn1_x691_fields.proofs.WordLemmas.{word_numbers}

-- ---- the same number in each lane

-- its greatest is all ones
pub ones_fill : (w k : ℕ) → ones w k * (2 ^ w - 1) + 1 ≡ 2 ^ (w * k)
ones_fill w zero =
    let e : w * 0 ≡ 0 = omega arith in
    let one : 2 ^ (w * 0) ≡ 1 = ap (λ (n : ℕ). 2 ^ n) e in
    omega (arith, one)
ones_fill w (suc k) =
    let o = ones w k in
    let s = 2 ^ w - 1 in
    let some = pow_pos w in
    let p : 2 ^ w ≡ s + 1 = omega (arith, some) in
    let ih : o * s + 1 ≡ 2 ^ (w * k) = ones_fill w k in
    let e : w * suc k ≡ w + w * k = omega arith in
    let f : (1 + 2 ^ w * o) * s + 1 ≡ (s + 1) * (o * s + 1) =
    ap (λ (n : ℕ). (1 + n * o) * s + 1) p ∙ omega arith in
    f ∙ ap (λ (n : ℕ). (s + 1) * n) ih ∙ ap (λ (n : ℕ). n * 2 ^ (w * k)) (sym p) ∙ sym (pow-add 2 w (w * k))
    ∙ ap (λ (n : ℕ). 2 ^ n) (sym e)

-- each lane has the number
pub lane_of : (w k c i : ℕ) → c < 2 ^ w → i < k → c * ones w k / 2 ^ (w * i) % 2 ^ w ≡ c
lane_of w zero c i h lt = absurd (omega (arith, lt))
lane_of w (suc k) c zero h lt =
    let o = ones w k in
    let none : 2 ^ (w * 0) ≡ 1 = let e : w * 0 ≡ 0 = omega arith in ap (λ (n : ℕ). 2 ^ n) e in
    let f : c * (1 + 2 ^ w * o) ≡ c + 2 ^ w * (c * o) = omega arith in
    let g : c * (1 + 2 ^ w * o) / 2 ^ (w * 0) ≡ c + 2 ^ w * (c * o) =
    ap (λ (n : ℕ). c * (1 + 2 ^ w * o) / n) none ∙ omega (arith, f) in
    ap (λ (n : ℕ). n % 2 ^ w) g ∙ add-mul-mod_self_left c (2 ^ w) (c * o) ∙ mod-eq_of_lt h
lane_of w (suc k) c (suc i) h lt =
    let o = ones w k in
    let e : w * suc i ≡ w + w * i = omega arith in
    let f : c * (1 + 2 ^ w * o) ≡ c + 2 ^ w * (c * o) = omega arith in
    let none : c / 2 ^ w ≡ 0 = shr_none c w h in
    let g : c * (1 + 2 ^ w * o) / 2 ^ w ≡ c * o =
    ap (λ (n : ℕ). n / 2 ^ w) f ∙ add-mul-div_left c (c * o) (pow_pos w) ∙ omega (arith, none) in
    ap (λ (n : ℕ). c * (1 + 2 ^ w * o) / 2 ^ n % 2 ^ w) e
    ∙ ap (λ (n : ℕ). n % 2 ^ w) (sym (shr-shr (c * (1 + 2 ^ w * o)) w (w * i)))
    ∙ ap (λ (n : ℕ). n / 2 ^ (w * i) % 2 ^ w) g
    ∙ lane_of w k c i h (omega (arith, lt)) where
      shr_none : (n p : ℕ) → n < 2 ^ p → n / 2 ^ p ≡ 0
      shr_none n p below =
          let e : n ≡ 0 * 2 ^ p + n = omega arith in ap (λ (m : ℕ). m / 2 ^ p) e ∙ shr_high 0 p n below

-- a lane of ones has an odd number
pub lane_bit : (w k i : ℕ) → 0 < w → i < k → bit_at (ones w k * 2 ^ w) (w * suc i) ≡ 1
lane_bit w k i some lt =
    let o = ones w k in
    let e : w * suc i ≡ w + w * i = omega arith in
    let le : 1 ≤ w = omega (arith, some) in
    let up : 2 ^ 1 ≤ 2 ^ w = pow_mono le in
    let one : o / 2 ^ (w * i) % 2 ^ w ≡ 1 =
    ap (λ (n : ℕ). n / 2 ^ (w * i) % 2 ^ w) (let f : o ≡ 1 * o = omega arith in f) ∙ lane_of w k 1 i (omega (arith, up)) lt in
    let back : o * 2 ^ w / 2 ^ w ≡ o =
    ap (λ (n : ℕ). n / 2 ^ w) (let f : o * 2 ^ w ≡ o * 2 ^ w + 0 = omega arith in f) ∙ shr_high o w 0 (pow_pos w) in
    let d : w ≡ w - 1 + 1 = omega (arith, some) in
    let odd : o / 2 ^ (w * i) % 2 ≡ 1 =
    sym (mod-mod-pow (o / 2 ^ (w * i)) (w - 1) 1)
    ∙ ap (λ (n : ℕ). o / 2 ^ (w * i) % 2 ^ n % 2) (sym d)
    ∙ ap (λ (n : ℕ). n % 2) one in
    ap (λ (n : ℕ). o * 2 ^ w / 2 ^ n % 2) e
    ∙ ap (λ (n : ℕ). n % 2) (sym (shr-shr (o * 2 ^ w) w (w * i)))
    ∙ ap (λ (n : ℕ). n / 2 ^ (w * i) % 2) back
    ∙ odd

-- ---- sums without carries

-- the parity of the quotient of a sum tells whether the remainders carry
no_carry : (n c p : ℕ) → (n + c) / 2 ^ p % 2 ≡ (n / 2 ^ p % 2 + c / 2 ^ p % 2) % 2 → n % 2 ^ p + c % 2 ^ p < 2 ^ p
no_carry n c p e = elim (cases_lt (n % 2 ^ p + c % 2 ^ p) (2 ^ p)) [
  | inl lt ↦ lt
  | inr le ↦
      let a = n / 2 ^ p in
      let b = c / 2 ^ p in
      let low = n % 2 ^ p + c % 2 ^ p - 2 ^ p in
      let some = pow_pos p in
      let below : low < 2 ^ p = omega (arith, mod-lt n some, mod-lt c some) in
      let whole : n + c ≡ (a + b + 1) * 2 ^ p + low = omega (arith, shr_split n p, shr_split c p, le) in
      let q : (n + c) / 2 ^ p ≡ a + b + 1 = ap (λ (m : ℕ). m / 2 ^ p) whole ∙ shr_high (a + b + 1) p low below in
      let f : (a + b + 1) % 2 ≡ (a % 2 + b % 2) % 2 = ap (λ (m : ℕ). m % 2) (sym q) ∙ e in
      absurd (omega (arith, f))
]

-- what the test of a bit tells
carry_bit : (n c mask p : ℕ) → bit_and (bit_xor (bit_xor (n + c) n) c) mask ≡ 0 → bit_at mask p ≡ 1
    → bit_at (n + c) p ≡ (bit_at n p + bit_at c p) % 2
carry_bit n c mask p e one =
    let x = bit_xor (bit_xor (n + c) n) c in
    let both = bit_at_and x mask p in
    let none : bit_at (bit_and x mask) p ≡ 0 = ap (λ (m : ℕ). bit_at m p) e ∙ bit_at-zero p in
    let zero_bit : bit_at x p ≡ 0 = omega (arith, both, none, one) in
    let outer = bit_at_xor (bit_xor (n + c) n) c p in
    let inner = bit_at_xor (n + c) n p in
    let s = bit_at-lt (n + c) p in
    let t = bit_at-lt n p in
    let u = bit_at-lt c p in
    omega (arith, zero_bit, outer, inner, s, t, u)

-- no carry out of a lane: the numbers of the lane have a sum that fits it
lane_fits : (w i c n m : ℕ) → m / 2 ^ (w * i) % 2 ^ w ≡ c
    → n % 2 ^ (w * suc i) + m % 2 ^ (w * suc i) < 2 ^ (w * suc i) → n / 2 ^ (w * i) % 2 ^ w + c < 2 ^ w
lane_fits w i c n m is h =
    let p = w * i in
    let e : w * suc i ≡ w + p = omega arith in
    let x = n / 2 ^ p % 2 ^ w in
    let nn = mod-pow-add n w p in
    let mm = mod-pow-add m w p in
    let low : n % 2 ^ (w + p) + m % 2 ^ (w + p) < 2 ^ (w + p) =
    subst (λ (q : ℕ). n % 2 ^ q + m % 2 ^ q < 2 ^ q) e h in
    let power : 2 ^ (w + p) ≡ 2 ^ w * 2 ^ p = pow-add 2 w p in
    let same : m / 2 ^ p % 2 ^ w * 2 ^ p ≡ c * 2 ^ p = ap (λ (q : ℕ). q * 2 ^ p) is in
    let sum : (x + c) * 2 ^ p < 2 ^ w * 2 ^ p = omega (arith, nn, mm, low, power, same) in
    lt_of_mul-lt-mul_right (2 ^ p) sum

-- where the test finds no carry, the number of each lane is at most what the added number leaves
pub each_fits : (w k c n i : ℕ) → 0 < w → c < 2 ^ w → bit_and (bit_xor (bit_xor (n + c * ones w k) n) (c * ones w k)) (ones w k * 2 ^ w) ≡ 0
    → i < k → n / 2 ^ (w * i) % 2 ^ w + c < 2 ^ w
each_fits w k c n i some h e lt =
    lane_fits w i c n (c * ones w k) (lane_of w k c i h lt)
    (no_carry n (c * ones w k) (w * suc i) (carry_bit n (c * ones w k) (ones w k * 2 ^ w) (w * suc i) e (lane_bit w k i some lt)))

-- ---- the lanes of a word are the numbers of its digits

module _ (P : ℕ → Type 0) (w n : ℕ) where
  all_lanes : (k m : ℕ) → m ≡ n % 2 ^ (w * k) → ((i : ℕ) → i < k → P (n / 2 ^ (w * i) % 2 ^ w))
      → AllByRecursion P (numbers_in w k (digits m (w * k)))
  all_lanes zero m e h = tt
  all_lanes (suc k) m e h =
      let p = w * k in
      let q : w * suc k ≡ w + p = omega arith in
      let x = n / 2 ^ p % 2 ^ w in
      let some = pow_pos p in
      let low : n % 2 ^ p < 2 ^ p = mod-lt n some in
      let is : m ≡ x * 2 ^ p + n % 2 ^ p = e ∙ ap (λ (j : ℕ). n % 2 ^ j) q ∙ mod-pow-add n w p in
      let first : m / 2 ^ p ≡ x = ap (λ (j : ℕ). j / 2 ^ p) is ∙ shr_high x p (n % 2 ^ p) low in
      let below : m < 2 ^ (w * suc k) = let up = pow_pos (w * suc k) in omega (arith, e, mod-lt n up) in
      let others : m - m / 2 ^ p * 2 ^ p ≡ n % 2 ^ p = ap (λ (j : ℕ). m - j * 2 ^ p) first ∙ omega (arith, is) in
      subst (λ (ns : List ℕ). AllByRecursion P ns) (sym (word_numbers w k m below)) (
        subst P (sym first) (h k (omega arith)),
        all_lanes k (m - m / 2 ^ p * 2 ^ p) others (λ i lt. h i (omega (arith, lt))),
      )

  pub lanes_are_numbers : (k : ℕ) → n < 2 ^ (w * k) → ((i : ℕ) → i < k → P (n / 2 ^ (w * i) % 2 ^ w))
      → AllByRecursion P (numbers_in w k (digits n (w * k)))
  lanes_are_numbers k below h = all_lanes k n (sym (mod-eq_of_lt below)) h

-- ---- the words of the test

module _ (w o : ℕ) (some : 1 ≤ w) (is : o ≡ ones w (63 / w)) where
  filled : (o * (2 ^ w - 1) + 1 ≡ 2 ^ (w * (63 / w))) × (2 ^ (w * (63 / w)) ≤ 2 ^ 63)
  filled = (ap (λ (n : ℕ). n * (2 ^ w - 1) + 1) is ∙ ones_fill w (63 / w), pow_mono (mul-div-le 63 w))

  pub product_fits : (c : ℕ) → c ≤ 2 ^ w - 1 → c * o < 2 ^ 63
  product_fits c h =
      let le : c * o ≤ (2 ^ w - 1) * o = mul-le-mul_right o h in
      let same : (2 ^ w - 1) * o ≡ o * (2 ^ w - 1) = mul_comm (2 ^ w - 1) o in
      omega (arith, le, same, filled.0, filled.1)

  pub shift_fits : o * 2 ^ w < 2 ^ 64
  shift_fits =
      let up : 2 ^ 1 ≤ 2 ^ w = pow_mono some in
      let s = 2 ^ w - 1 in
      let p : 2 ^ w ≡ s + 1 = omega (arith, up) in
      let e : o * 2 ^ w ≡ o * s + o = ap (λ (n : ℕ). o * n) p ∙ omega arith in
      let le : o * 1 ≤ o * s = mul-le-mul_left o (omega (arith, up)) in
      omega (arith, e, le, filled.0, filled.1)

  pub all_up_to : (most count word : ℕ) → w * count ≤ 63 → word < 2 ^ (w * count)
      → bit_and (bit_xor (bit_xor (word + (2 ^ w - 1 - most) * o) word) ((2 ^ w - 1 - most) * o)) (o * 2 ^ w) ≡ 0
      → AllByRecursion (λ n. n ≤ most) (numbers_in w count (digits word (w * count)))
  all_up_to most count word few below e =
      let k = 63 / w in
      let c = 2 ^ w - 1 - most in
      let many : count ≤ k = le-div count 63 w some (omega (arith, few)) in
      let up = pow_pos w in
      let small : c < 2 ^ w = omega (arith, up) in
      let test : bit_and (bit_xor (bit_xor (word + c * ones w k) word) (c * ones w k)) (ones w k * 2 ^ w) ≡ 0 =
      subst (λ (n : ℕ). bit_and (bit_xor (bit_xor (word + c * n) word) (c * n)) (n * 2 ^ w) ≡ 0) is e in
      lanes_are_numbers (λ n. n ≤ most) w word count below
      (λ i lt. let fits = each_fits w k c word i some small test (omega (arith, lt, many)) in omega (arith, fits))

-- numbers of `w` bits are at most all ones
pub all_below : (w most count : ℕ) (list : List Bool) → 2 ^ w - 1 ≤ most → AllByRecursion (λ n. n ≤ most) (numbers_in w count list)
all_below w most zero list h = tt
all_below w most (suc count) list h =
    let low = number-below (take w list) w (omega (arith, length-take w list)) in
    (omega (arith, low, h), all_below w most count (drop w list) h)

-- ---- numbers that are at least another

-- what a number leaves up to all ones, in two parts
left_parts : (w p n q r : ℕ) → n ≡ q * 2 ^ p + r → q < 2 ^ w → r < 2 ^ p
    → 2 ^ (w + p) - 1 - n ≡ (2 ^ w - 1 - q) * 2 ^ p + (2 ^ p - 1 - r)
left_parts w p n q r e high low =
    let x = 2 ^ w - 1 - q in
    let whole : 2 ^ w ≡ x + q + 1 = omega (arith, high) in
    let power : 2 ^ (w + p) ≡ 2 ^ w * 2 ^ p = pow-add 2 w p in
    let split : 2 ^ w * 2 ^ p ≡ (x + q + 1) * 2 ^ p = ap (λ (m : ℕ). m * 2 ^ p) whole in
    let apart : (x + q + 1) * 2 ^ p ≡ x * 2 ^ p + q * 2 ^ p + 2 ^ p = omega arith in
    omega (arith, power, split, apart, e, low)

-- what numbers leave up to all ones is at most what a number leaves, where they are at least that number
pub all_from : (w least k n : ℕ) → least ≤ 2 ^ w - 1 → n < 2 ^ (w * k)
    → AllByRecursion (λ m. m ≤ 2 ^ w - 1 - least) (numbers_in w k (digits (2 ^ (w * k) - 1 - n) (w * k)))
    → AllByRecursion (λ m. least ≤ m) (numbers_in w k (digits n (w * k)))
all_from w least zero n few below h = tt
all_from w least (suc k) n few below h =
    let p = w * k in
    let e : w * suc k ≡ w + p = omega arith in
    let some = pow_pos p in
    let q = n / 2 ^ p in
    let r = n % 2 ^ p in
    let low : r < 2 ^ p = mod-lt n some in
    let high : q < 2 ^ w = shr_lt w p (subst (λ (j : ℕ). n < 2 ^ j) e below) in
    let is : n ≡ q * 2 ^ p + r = sym (shr_split n p) in
    let x = 2 ^ (w * suc k) - 1 - n in
    let parts : x ≡ (2 ^ w - 1 - q) * 2 ^ p + (2 ^ p - 1 - r) =
    ap (λ (j : ℕ). 2 ^ j - 1 - n) e ∙ left_parts w p n q r is high low in
    let rest : 2 ^ p - 1 - r < 2 ^ p = omega (arith, some) in
    let first : x / 2 ^ p ≡ 2 ^ w - 1 - q = ap (λ (m : ℕ). m / 2 ^ p) parts ∙ shr_high (2 ^ w - 1 - q) p (2 ^ p - 1 - r) rest in
    let others : x - x / 2 ^ p * 2 ^ p ≡ 2 ^ p - 1 - r =
    ap (λ (m : ℕ). x - m * 2 ^ p) first ∙ omega (arith, parts) in
    let small : x < 2 ^ (w * suc k) = let up = pow_pos (w * suc k) in omega (arith, up) in
    let all = subst (λ (ns : List ℕ). AllByRecursion (λ m. m ≤ 2 ^ w - 1 - least) ns) (word_numbers w k x small) h in
    let head : least ≤ q = let le = all.0 in omega (arith, le, first, few, high) in
    let tail = subst (λ (m : ℕ). AllByRecursion (λ j. j ≤ 2 ^ w - 1 - least) (numbers_in w k (digits m p))) others all.1 in
    let back : n - q * 2 ^ p ≡ r = omega (arith, is) in
    subst (λ (ns : List ℕ). AllByRecursion (λ m. least ≤ m) ns) (sym (word_numbers w k n below)) (
      head,
      subst (λ (m : ℕ). AllByRecursion (λ j. least ≤ j) (numbers_in w k (digits m p))) (sym back) (all_from w least k r few low tail),
    )

-- numbers that are at least a number and at most another
pub all_between : (least range most : ℕ) (ns : List ℕ) → most ≤ least + range → AllByRecursion (λ n. least ≤ n) ns
    → AllByRecursion (λ n. n ≤ most) ns → AllByRecursion (λ n. (least ≤ n) × (n ≤ least + range)) ns
all_between least range most [] e p q = tt
all_between least range most (n ∷ ns) e p q =
    let high = q.0 in
    ((p.0, omega (arith, high, e)), all_between least range most ns e p.1 q.1)

pub all_from_zero : (least : ℕ) (ns : List ℕ) → least ≡ 0 → AllByRecursion (λ n. least ≤ n) ns
all_from_zero least [] e = tt
all_from_zero least (n ∷ ns) e = (omega (arith, e), all_from_zero least ns e)
