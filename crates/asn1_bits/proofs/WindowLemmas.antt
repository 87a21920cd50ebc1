-- A number's digits in a window of octets, and octets that are ORed in.
use Rattle.std.proofs.Common.{◌≡◌, ℕ, zero, suc, ◌+◌, ◌-◌, ◌*◌, ◌/◌, ◌%◌, ◌^◌, ◌<◌, ◌≤◌, max, Bool, false, eqb, ◌||◌, List, ◌++◌, length, get_or, set, take, drop, replicate, refl, sym, ap, ◌∙◌, inl, inr, append_assoc, arith}
use Rattle.std.specs.Prelude.{bit_or}
use Rattle.std.specs.Int.{bit_at, bytes_high_first, from_be_bytes, w64}
use Rattle.std.proofs.Math.Nat.{div-one, mul_assoc, mul-mod_left, div-eq_of_lt, mod-eq_of_lt}
use Rattle.std.proofs.Math.Pow.{pow_mono}
use Rattle.std.proofs.Math.Seq.{take-add}
use Rattle.std.proofs.lemmas.Bool.{cases_eq, cases_lt}
use Rattle.std.proofs.lemmas.List.{length-append, length-replicate, length-set, length-take, length-drop, ext_get_or, get_or-set_same, get_or-set_other, get_or-take, get_or-drop, get_or_past, drop_at, drop-drop, drop-take, take-take, take_at, take_all, drop_more, replicate-append-replicate}
use Rattle.std.proofs.lemmas.Nat.{field_of, mul-mod_first, mod-pow-add, pow-add, pow_pos, shl-shr, shr-shr, shl_below, shl_whole, shr_below, shr_high, or_shifted, be_bytes_8, mod_below}
use Rattle.std.proofs.lemmas.Nat.Bits.{bit_at_or, bit_at-lt}
use Rattle.asn1_bits.specs.Bits.{is_odd, digits, bits, ored}
use Rattle.asn1_bits.specs.Laws.DigitLaws.{length-digits, length-bits, get_or-digits, get_or-bits, bits-drop, bits-take}
use Rattle.asn1_bits.specs.Laws.ByteLaws.{digits-mod, bits-bytes}
use Rattle.asn1_bits.proofs.BufferLemmas.{digits-zero}
use Rattle.asn1_bits.specs.Laws.NumberLaws.{digits-append, digits-low}
use Rattle.asn1_bits.proofs.OredLemmas.{ored-none, ored-append, ored-within, length-ored, get_or-ored_inside, get_or-ored_outside}

-- ---- one octet

either : (x y : ℕ) → x < 2 → y < 2 → eqb (max x y) 1 ≡ (eqb x 1 || eqb y 1)
either zero zero h k = refl
either zero (suc zero) h k = refl
either zero (suc (suc y)) h k = absurd (omega arith)
either (suc zero) zero h k = refl
either (suc zero) (suc zero) h k = refl
either (suc zero) (suc (suc y)) h k = absurd (omega arith)
either (suc (suc x)) y h k = absurd (omega arith)

-- a digit of an OR is the OR of the digits
pub is_odd-or : (a b k : ℕ) → is_odd (bit_or a b / 2 ^ k) ≡ (is_odd (a / 2 ^ k) || is_odd (b / 2 ^ k))
is_odd-or a b k = ap (λ (m : ℕ). eqb m 1) (bit_at_or a b k)
    ∙ either (bit_at a k) (bit_at b k) (bit_at-lt a k) (bit_at-lt b k)

-- an octet ORed into another ORs its digits in
pub bits-or : (octets : List ℕ) (q octet : ℕ) → q < length octets
    → bits (set octets q (bit_or (get_or octets q 0) octet)) ≡ ored (bits octets) (8 * q) (digits octet 8)
bits-or octets q octet h =
    let new = bit_or (get_or octets q 0) octet in
    let after = set octets q new in
    let old = bits octets in
    ext_get_or false (bits after) (ored old (8 * q) (digits octet 8))
    (omega (
      arith,
      length-bits after,
      length-set octets q new,
      length-bits octets,
      length-ored old (8 * q)
          (digits octet 8),
    ))
    (λ i lt.
    let in_old : i < length old = omega (arith, length-bits after, length-set octets q new, length-bits octets) in
    get_or-bits after i ∙ (elim (cases_eq (i / 8) q) [
      | inl same ↦
          rw (same, get_or-set_same octets q new 0 h)
          (is_odd-or (get_or octets q 0) octet (7 - i % 8)
          ∙ ap (λ (b : Bool). b || is_odd (octet / 2 ^ (7 - i % 8)))
          (ap (λ (k : ℕ). is_odd (get_or octets k 0 / 2 ^ (7 - i % 8))) (sym same) ∙ sym (get_or-bits octets i))
          ∙ ap (λ (b : Bool). get_or old i false || b) (sym (get_or-digits octet 8 (i % 8) (7 - i % 8) (omega arith)))
          ∙ sym (get_or-ored_inside old (8 * q) (digits octet 8) i (i % 8) in_old (omega arith)))
      | inr apart ↦
          rw (get_or-set_other octets q (i / 8) new 0 apart)
          (sym (get_or-bits octets i) ∙ sym (get_or-ored_outside old (8 * q) (digits octet 8) i in_old
          (elim (cases_lt i (8 * q)) [
            | inl below ↦ inl below
            | inr from ↦ inr (omega (arith, length-digits octet 8))
          ])))
    ]))

-- ---- the window

-- a number whose `rest` lowest bits are zero
pub shifted-digits : (a width rest : ℕ) → digits (a * 2 ^ rest) (width + rest) ≡ digits a width ++ replicate rest false
shifted-digits a width rest =
    digits-append (a * 2 ^ rest) width rest
    ∙ ap (λ (m : ℕ). digits m width ++ digits (a * 2 ^ rest) rest) (shl-shr a rest)
    ∙ ap (λ (l : List Bool). digits a width ++ l)
    ((let e : a * 2 ^ rest ≡ a * 2 ^ rest + 0 = omega arith in ap (λ (m : ℕ). digits m rest) e) ∙ digits-low a 0 rest
    ∙ digits-zero rest)

top-shifted : (n width j : ℕ) → n * 2 ^ j % 2 ^ (width + j) ≡ (n % 2 ^ width) * 2 ^ j
top-shifted n width j =
    mod-pow-add (n * 2 ^ j) width j
    ∙ ap (λ (m : ℕ). (m % 2 ^ width) * 2 ^ j + (n * 2 ^ j) % 2 ^ j) (shl-shr n j)
    ∙ omega (arith, mul-mod_left n (2 ^ j))

-- a number moved up in a word, and down again
pub window_is : (n width rest shift : ℕ)
    → n * 2 ^ (rest + shift) % 2 ^ (width + (rest + shift)) / 2 ^ shift ≡ (n % 2 ^ width) * 2 ^ rest
window_is n width rest shift =
    ap (λ (m : ℕ). m / 2 ^ shift) (top-shifted n width (rest + shift)
    ∙ ap (λ (m : ℕ). (n % 2 ^ width) * m) (pow-add 2 rest shift)
    ∙ sym (mul_assoc (n % 2 ^ width) (2 ^ rest) (2 ^ shift)))
    ∙ shl-shr ((n % 2 ^ width) * 2 ^ rest) shift

-- a number is moved to an offset in a word by one shift
pub moved : (size n width shift : ℕ) → shift + width ≤ size → n < 2 ^ width
    → n * 2 ^ (size - width - shift) % 2 ^ size ≡ n * 2 ^ (size - width) % 2 ^ size / 2 ^ shift
moved size n width shift fits small =
    let rest = size - width - shift in
    let high = shift + width in
    let all : size ≡ high + rest = omega arith in
    let whole : size ≡ width + (rest + shift) = omega arith in
    let behind : size - width ≡ rest + shift = omega arith in
    let wide : n < 2 ^ high = omega (arith, small, pow_mono {i = width} {j = high} (omega arith)) in
    ap (λ (k : ℕ). n * 2 ^ rest % 2 ^ k) all
    ∙ top-shifted n high rest
    ∙ ap (λ (m : ℕ). m * 2 ^ rest) (mod-eq_of_lt wide ∙ sym (mod-eq_of_lt small))
    ∙ sym (window_is n width rest shift)
    ∙ ap (λ (k : ℕ). n * 2 ^ (rest + shift) % 2 ^ k / 2 ^ shift) (sym whole)
    ∙ ap (λ (j : ℕ). n * 2 ^ j % 2 ^ size / 2 ^ shift) (sym behind)

-- digits moved to an offset in a window, with zeros around them
pub window-digits : (n width rest shift : ℕ)
    → digits (n * 2 ^ (rest + shift) % 2 ^ (width + (rest + shift)) / 2 ^ shift) (shift + (width + rest)) ≡ replicate
    shift false ++ (digits n width ++ replicate rest false)
window-digits n width rest shift =
    let a = n % 2 ^ width in
    let small : a * 2 ^ rest < 2 ^ (width + rest) = shl_below a width rest (mod_below n (2 ^ width) (pow_pos width)) in
    ap (λ (m : ℕ). digits m (shift + (width + rest))) (window_is n width rest shift)
    ∙ digits-append (a * 2 ^ rest) shift (width + rest)
    ∙ ap (λ (m : ℕ). digits m shift ++ digits (a * 2 ^ rest) (width + rest)) (div-eq_of_lt small)
    ∙ ap (λ (l : List Bool). l ++ digits (a * 2 ^ rest) (width + rest)) (digits-zero shift)
    ∙ ap (λ (l : List Bool). replicate shift false ++ l)
    (shifted-digits a width rest ∙ ap (λ (l : List Bool). l ++ replicate rest false) (digits-mod n width))

-- the front of the octets of the window
pub window-front : (m n width shift count : ℕ) (octets : List ℕ) → shift + width ≤ 8 * count → count ≤ m
    → octets ≡ bytes_high_first m (n * 2 ^ ((8 * m) - width) % 2 ^ (8 * m) / 2 ^ shift)
    → take (8 * count) (bits octets) ≡ replicate shift false ++
    (digits n width ++ replicate (8 * count - shift - width) false)
window-front m n width shift count octets h small e =
    let rest = (8 * m) - shift - width in
    let near = 8 * count - shift - width in
    let far = (8 * m) - 8 * count in
    let j : (8 * m) - width ≡ rest + shift = omega arith in
    let whole : width + (rest + shift) ≡ (8 * m) = omega arith in
    let all : shift + (width + rest) ≡ (8 * m) = omega arith in
    let parts : near + far ≡ rest = omega arith in
    let zeros = replicate shift false in
    let src = digits n width in
    let shape : bits octets ≡ (zeros ++ (src ++ replicate near false)) ++ replicate far false =
    ap bits e
    ∙ bits-bytes m (n * 2 ^ ((8 * m) - width) % 2 ^ (8 * m) / 2 ^ shift)
    ∙ ap (λ (k : ℕ). digits (n * 2 ^ k % 2 ^ (8 * m) / 2 ^ shift) (8 * m)) j
    ∙ sym (ap (λ (k : ℕ). digits (n * 2 ^ (rest + shift) % 2 ^ k / 2 ^ shift) (8 * m)) whole)
    ∙ sym (ap (digits (n * 2 ^ (rest + shift) % 2 ^ (width + (rest + shift)) / 2 ^ shift)) all)
    ∙ window-digits n width rest shift
    ∙ ap (λ (l : List Bool). zeros ++ (src ++ l))
    (sym (replicate-append-replicate near far false ∙ ap (λ (k : ℕ). replicate k false) parts))
    ∙ ap (λ (l : List Bool). zeros ++ l) (sym (append_assoc src (replicate near false) (replicate far false)))
    ∙ sym (append_assoc zeros (src ++ replicate near false) (replicate far false)) in
    ap (take (8 * count)) shape
    ∙ take_at (zeros ++ (src ++ replicate near false)) (replicate far false) (8 * count)
    (omega (
      arith,
      length-append zeros (src ++ replicate near false),
      length-append src (replicate near false),
      length-replicate shift false,
      length-replicate near false,
      length-digits n width,
    ))

-- ---- octet after octet

-- the bits at an octet's index are its digits
pub bits-octet : (octets : List ℕ) (k : ℕ) → k < length octets
    → take 8 (drop (8 * k) (bits octets)) ≡ digits (get_or octets k 0) 8
unfolding bits
bits-octet octets k h =
    let o = get_or octets k 0 in
    ap (take 8) (sym (bits-drop k octets) ∙ ap bits (drop_more octets k 0 h))
    ∙ take_at (digits o 8) (bits (drop (k + 1) octets)) 8 (length-digits o 8)

-- one octet more that is ORed in
pub or-more : (old : List Bool) (dst octets : List ℕ) (q k : ℕ)
    → bits dst ≡ ored old (8 * q) (take (8 * k) (bits octets))
    → q + k < length dst → k < length octets
    → bits (set dst (q + k) (bit_or (get_or dst (q + k) 0) (get_or octets k 0))) ≡ ored old (8 * q)
    (take (8 * (k + 1)) (bits octets))
or-more old dst octets q k e h small =
    let all = bits octets in
    let front = take (8 * k) all in
    let o = get_or octets k 0 in
    let n : length old ≡ 8 * length dst = sym (length-ored old (8 * q) front) ∙ sym (ap (λ (l : List Bool). length l) e)
    ∙ length-bits dst in
    bits-or dst (q + k) o h
    ∙ ap (λ (l : List Bool). ored l (8 * (q + k)) (digits o 8)) e
    ∙ ored-append old (8 * q) (8 * (q + k)) front (digits o 8)
    (omega (arith, length-take (8 * k) all, length-bits octets)) (omega (arith, length-digits o 8))
    ∙ ap (ored old (8 * q)) (ap (λ (l : List Bool). front ++ l) (sym (bits-octet octets k small))
    ∙ sym (take-add (8 * k) 8 all)
    ∙ (let m : 8 * k + 8 ≡ 8 * (k + 1) = omega arith in ap (λ (j : ℕ). take j all) m))

-- all octets of the window
pub or-window : (old : List Bool) (octets : List ℕ) (m place n width count : ℕ) → 0 < width → count ≤ m
    → place + width ≤ length old
    → 8 * (place / 8) + 8 * count ≤ length old
    → count * 8 < place % 8 + width + 8 → place % 8 + width ≤ 8 * count
    → octets ≡ bytes_high_first m (n * 2 ^ ((8 * m) - width) % 2 ^ (8 * m) / 2 ^ (place % 8))
    → ored old (8 * (place / 8)) (take (8 * count) (bits octets)) ≡ ored old place (digits n width)
or-window old octets m place n width count some small within room least most e =
    let q = place / 8 in let shift = place % 8 in
    let near = 8 * count - shift - width in
    ap (ored old (8 * q)) (window-front m n width shift count octets most small e)
    ∙ ored-within old (digits n width) (8 * q) shift near (omega (arith, length-digits n width))
    ∙ (let p : 8 * q + shift ≡ place = omega arith in ap (λ (k : ℕ). ored old k (digits n width)) p)

-- no digits ORed in change nothing
pub ored-no_digits : (old : List Bool) (place n : ℕ) → old ≡ ored old place (digits n 0)
unfolding digits
ored-no_digits old place n = sym (ored-none old place)

-- ---- several octets at a time

-- moved to the top of a word, and down again
pub up-down : (n width : ℕ) → width ≤ 64
    → digits (n * 2 ^ (64 - width) % 2 ^ 64 / 2 ^ (64 - width)) width ≡ digits n width
up-down n width h =
    let j = 64 - width in
    let a : 64 ≡ width + j = omega arith in
    ap (λ (k : ℕ). digits (n * 2 ^ j % 2 ^ k / 2 ^ j) width) a
    ∙ ap (λ (m : ℕ). digits m width) (ap (λ (m : ℕ). m / 2 ^ j) (top-shifted n width j) ∙ shl-shr (n % 2 ^ width) j)
    ∙ digits-mod n width

-- two shifts to the left are one
pub up-again : (n j k : ℕ) → n * 2 ^ j % 2 ^ 64 * 2 ^ k % 2 ^ 64 ≡ n * 2 ^ (j + k) % 2 ^ 64
up-again n j k =
    mul-mod_first (n * 2 ^ j) (2 ^ k) (2 ^ 64)
    ∙ ap (λ (m : ℕ). m % 2 ^ 64) (mul_assoc n (2 ^ j) (2 ^ k) ∙ ap (λ (m : ℕ). n * m) (sym (pow-add 2 j k)))

-- the shift drops the digits that lie in a ninth octet
pub moved-past : (n width shift : ℕ) → shift < 8 → 0 < width → width ≤ 64
    → n * 2 ^ (64 - width) % 2 ^ 64 / 2 ^ shift ≡ n / 2 ^ (shift + width - 64)
    * 2 ^ (64 - (width - (shift + width - 64))) % 2 ^ 64 / 2 ^ shift
moved-past n width shift h some most =
    let past = shift + width - 64 in
    elim (cases_lt 64 (shift + width)) [
      | inl over ↦
          let j = 64 - width in
          let near = width - past in
          let a : 64 ≡ width + j = omega arith in
          let b : 64 ≡ near + (0 + shift) = omega arith in
          let s : shift ≡ j + past = omega arith in
          let w : width ≡ near + past = omega arith in
          let up : 64 - near ≡ 0 + shift = omega arith in
          let low : n * 2 ^ j % 2 ^ 64 / 2 ^ shift ≡ n / 2 ^ past % 2 ^ near =
          ap (λ (k : ℕ). n * 2 ^ j % 2 ^ k / 2 ^ shift) a
          ∙ ap (λ (m : ℕ). m / 2 ^ shift) (top-shifted n width j)
          ∙ ap (λ (k : ℕ). (n % 2 ^ width) * 2 ^ j / 2 ^ k) s
          ∙ sym (shr-shr ((n % 2 ^ width) * 2 ^ j) j past)
          ∙ ap (λ (m : ℕ). m / 2 ^ past) (shl-shr (n % 2 ^ width) j)
          ∙ ap (λ (k : ℕ). n % 2 ^ k / 2 ^ past) w
          ∙ field_of n near past in
          low
          ∙ sym (ap (λ (k : ℕ). n / 2 ^ past * 2 ^ k % 2 ^ 64 / 2 ^ shift) up
          ∙ ap (λ (k : ℕ). n / 2 ^ past * 2 ^ (0 + shift) % 2 ^ k / 2 ^ shift) b
          ∙ window_is (n / 2 ^ past) near 0 shift
          ∙ omega arith)
      | inr within ↦
          let none : past ≡ 0 = omega arith in
          let same : width - past ≡ width = omega arith in
          sym (ap (λ (k : ℕ). n / 2 ^ k * 2 ^ (64 - (width - past)) % 2 ^ 64 / 2 ^ shift) none
          ∙ ap (λ (k : ℕ). n / 2 ^ 0 * 2 ^ (64 - k) % 2 ^ 64 / 2 ^ shift) same
          ∙ ap (λ (m : ℕ). m * 2 ^ (64 - width) % 2 ^ 64 / 2 ^ shift) (div-one n))
    ]

-- the digits of a number, shifted to where they are, where m octets hold them
pub or-near : (m : ℕ) (old new : List Bool) (place n width : ℕ) → 0 < width → place % 8 + width ≤ 8 * m
    → 8 * (place / 8) + 8 * m ≤ length old
    → new ≡ ored old (8 * (place / 8)) (digits (n * 2 ^ (8 * m - width) % 2 ^ (8 * m) / 2 ^ (place % 8)) (8 * m))
    → new ≡ ored old place (digits n width)
or-near m old new place n width some fits room e =
    let q = place / 8 in
    let shift = place % 8 in
    let w = n * 2 ^ (8 * m - width) % 2 ^ (8 * m) / 2 ^ shift in
    let octets = bytes_high_first m w in
    let whole : take (8 * m) (bits octets) ≡ digits w (8 * m) = ap (take (8 * m)) (bits-bytes m w)
    ∙ take_all (8 * m) (digits w (8 * m)) (omega (arith, length-digits w (8 * m))) in
    e
    ∙ ap (ored old (8 * q)) (sym whole ∙ window-front m n width shift m octets fits (omega arith) refl)
    ∙ ored-within old (digits n width) (8 * q) shift (8 * m - shift - width) (omega (arith, length-digits n width))
    ∙ (let p : 8 * q + shift ≡ place = omega arith in ap (λ (k : ℕ). ored old k (digits n width)) p)

-- ---- a word that is read

-- eight of the octets are octets
pub eight-small : (octets eight : List ℕ) (first : ℕ) → ((i : ℕ) → get_or octets i 0 < 256)
    → eight ≡ take 8 (drop first octets) → (i : ℕ) → get_or eight i 0 < 256
eight-small octets eight first small e i =
    elim (cases_lt i 8) [
      | inl lt ↦
          rw (ap (λ (l : List ℕ). get_or l i 0) e ∙ get_or-take 8 (drop first octets) i 0 lt
          ∙ get_or-drop first octets i 0) (small (first + i))
      | inr past ↦
          rw (get_or_past eight i 0 (omega (arith, ap (λ (l : List ℕ). length l) e, length-take 8 (drop first octets))))
          (omega arith)
    ]

-- the word of eight octets
pub loaded : (octets chunk : List ℕ) (first n : ℕ) → ((i : ℕ) → get_or octets i 0 < 256) → first + 8 ≤ length octets
    → chunk ≡ take 8 (drop first octets) → n ≡ from_be_bytes w64 chunk
    → digits n 64 ≡ take 64 (drop (8 * first) (bits octets))
loaded octets chunk first n small h e is =
    let len : length chunk ≡ 8 = ap (λ (l : List ℕ). length l) e
    ∙ omega (arith, length-take 8 (drop first octets), length-drop first octets) in
    sym (bits-bytes 8 n)
    ∙ ap bits (be_bytes_8 chunk n len (eight-small octets chunk first small e) is ∙ e)
    ∙ bits-take 8 (drop first octets)
    ∙ ap (take 64) (bits-drop first octets)

-- the last digits are those of fewer
pub low-part : (n s width : ℕ) → drop s (digits n (s + width)) ≡ digits n width
low-part n s width =
    ap (drop s) (digits-append n s width)
    ∙ drop_at (digits (n / 2 ^ width) s) (digits n width) s (length-digits (n / 2 ^ width) s)

-- bits from within a number: those of it but for the first, and the first of the next number
carried : (list : List Bool) (place size n shift : ℕ) → shift ≤ n → shift ≤ size
    → take size (drop (place + shift) list) ≡ drop shift (take size (drop place list)) ++ take shift
    (take n (drop (place + size) list))
carried list place size n shift h k =
    let all = drop (place + shift) list in
    let w = size - shift in
    let a : size ≡ w + shift = omega arith in
    let b : shift + w ≡ size = omega arith in
    let c : place + shift + w ≡ place + size = omega arith in
    ap (λ (k : ℕ). take k all) a
    ∙ take-add w shift all
    ∙ ap (λ (l : List Bool). take w l ++ take shift (drop w all)) (sym (drop-drop shift place list))
    ∙ ap (λ (l : List Bool). l ++ take shift (drop w all))
    (sym (drop-take shift w (drop place list)) ∙ ap (λ (k : ℕ). drop shift (take k (drop place list))) b)
    ∙ ap (λ (l : List Bool). drop shift (take size (drop place list)) ++ take shift l)
    (drop-drop w (place + shift) list ∙ ap (λ (k : ℕ). drop k list) c)
    ∙ ap (λ (l : List Bool). drop shift (take size (drop place list)) ++ l)
    (sym (take-take shift n (drop (place + size) list) h))

-- the number that the code joins of a number and the next one, of n digits
pub joined : (list : List Bool) (place size n shift high o : ℕ) → shift ≤ n → shift ≤ size → o < 2 ^ n
    → digits high size ≡ take size (drop place list)
    → digits o n ≡ take n (drop (place + size) list)
    → digits (bit_or (high * 2 ^ shift % 2 ^ size) (o / 2 ^ (n - shift))) size ≡ take size (drop (place + shift) list)
joined list place size n shift high o h fits small e f =
    let w = size - shift in
    let low = o / 2 ^ (n - shift) in
    let top = high % 2 ^ w in
    let a : w + shift ≡ size = omega arith in
    let b : shift + w ≡ size = omega arith in
    let s : n ≡ shift + (n - shift) = omega arith in
    let less : low < 2 ^ shift = shr_below o shift (n - shift) (rw (ap (λ (k : ℕ). 2 ^ k) (sym s)) small) in
    let sum : bit_or (high * 2 ^ shift % 2 ^ size) low ≡ top * 2 ^ shift + low =
    ap (λ (k : ℕ). bit_or (high * 2 ^ shift % 2 ^ k) low) (sym a)
    ∙ ap (λ (m : ℕ). bit_or m low) (top-shifted high w shift)
    ∙ or_shifted top shift low less in
    let tail : digits low shift ≡ take shift (take n (drop (place + size) list)) =
    sym (ap (take shift) (ap (digits o) s ∙ digits-append o shift (n - shift))
    ∙ take_at (digits low shift) (digits o (n - shift)) shift (length-digits low shift))
    ∙ ap (take shift) f in
    let head : digits top w ≡ drop shift (take size (drop place list)) =
    digits-mod high w ∙ sym (low-part high shift w) ∙ ap (λ (k : ℕ). drop shift (digits high k)) b
    ∙ ap (drop shift) e in
    ap (λ (m : ℕ). digits m size) sum
    ∙ ap (digits (top * 2 ^ shift + low)) (sym a)
    ∙ digits-append (top * 2 ^ shift + low) w shift
    ∙ ap (λ (m : ℕ). digits m w ++ digits (top * 2 ^ shift + low) shift) (shr_high top shift low less)
    ∙ ap (λ (l : List Bool). digits top w ++ l) (digits-low top low shift ∙ tail)
    ∙ ap (λ (l : List Bool). l ++ take shift (take n (drop (place + size) list))) head
    ∙ sym (carried list place size n shift h fits)

-- a word of the eight octets from one of them on, and of the ninth
pub word-joined : (octets : List ℕ) (first shift high low n : ℕ) → shift ≤ 8 → first + 8 < length octets
    → get_or octets (first + 8) 0 < 256
    → digits high 64 ≡ take 64 (drop (8 * first) (bits octets))
    → low ≡ get_or octets (first + 8) 0 / 2 ^ (8 - shift) → n ≡ bit_or (high * 2 ^ shift % 2 ^ 64) low
    → digits n 64 ≡ take 64 (drop (8 * first + shift) (bits octets))
word-joined octets first shift high low n h lt small e l is =
    let p : 8 * (first + 8) ≡ 8 * first + 64 = omega arith in
    ap (λ (m : ℕ). digits m 64) (is ∙ ap (bit_or (high * 2 ^ shift % 2 ^ 64)) l)
    ∙ joined (bits octets) (8 * first) 64 8 shift high (get_or octets (first + 8) 0) h (omega arith) small e
    (sym (bits-octet octets (first + 8) lt) ∙ ap (λ (k : ℕ). take 8 (drop k (bits octets))) p)

-- the same without a branch where the bits begin at the octet's first
pub carry-joined : (list : List Bool) (size shift high o : ℕ) → shift < 8 → 16 ≤ size → o < 256
    → digits high size ≡ take size list → digits o 8 ≡ take 8 (drop size list)
    → digits (bit_or (high * 2 ^ shift % 2 ^ size) (o * 2 ^ shift % 2 ^ size / 2 ^ 8)) size ≡ take size
    (drop shift list)
carry-joined list size shift high o h big small e f =
    let s : 8 ≡ shift + (8 - shift) = omega arith in
    let here : 0 + size ≡ size = omega arith in
    let there : 0 + shift ≡ shift = omega arith in
    let low : o * 2 ^ shift % 2 ^ size / 2 ^ 8 ≡ o / 2 ^ (8 - shift) =
    ap (λ (m : ℕ). m / 2 ^ 8) (shl_whole o 8 shift size small (omega arith))
    ∙ ap (λ (k : ℕ). o * 2 ^ shift / 2 ^ k) s ∙ sym (shr-shr (o * 2 ^ shift) shift (8 - shift))
    ∙ ap (λ (m : ℕ). m / 2 ^ (8 - shift)) (shl-shr o shift) in
    ap (λ (m : ℕ). digits (bit_or (high * 2 ^ shift % 2 ^ size) m) size) low
    ∙ joined list 0 size 8 shift high o (omega arith) (omega arith) small e
    (f ∙ ap (λ (k : ℕ). take 8 (drop k list)) (sym here))
    ∙ ap (λ (k : ℕ). take size (drop k list)) there
