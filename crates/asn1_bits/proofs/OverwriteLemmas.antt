-- Bits that are cleared, and then ORed in.
use Rattle.std.proofs.Common.{◌≡◌, ℕ, ◌+◌, ◌-◌, ◌*◌, ◌/◌, ◌%◌, ◌^◌, ◌<◌, ◌≤◌, Bool, false, List, ◌∷◌, ◌++◌, length, get_or, set, take, drop, replicate, sym, ap, ◌∙◌, append_assoc, zero-add, arith}
use Rattle.std.proofs.Math.Nat.{mod-eq_of_lt, div-eq_of_lt, pow-le-pow_right}
use Rattle.std.proofs.Math.Seq.{take-append-add, drop-append-add}
use Rattle.std.proofs.lemmas.Nat.{one_shl, pow-add, pow_pos, div-add-mod', mul-add-lt, mod_below, shl_below, shr_below, shr_high}
use Rattle.std.proofs.lemmas.List.{length-append, length-take, length-replicate, take-append-drop, take-append-le, drop-append-le, take_at, take_all, drop-drop, length-drop, drop_more, replicate-append-replicate, set_at}
use Rattle.asn1_bits.specs.Bits.{digits, number, bits, ored, overwritten}
use Rattle.asn1_bits.specs.Laws.DigitLaws.{length-digits, length-bits, bits-append, bits-drop, bits-take}
use Rattle.asn1_bits.specs.Laws.ByteLaws.{digits-mod}
use Rattle.asn1_bits.specs.Laws.NumberLaws.{number-append, number-below, number-digits, number_of-digits, digits_of-number, digits-append, digits-low}
use Rattle.asn1_bits.specs.Laws.OverwrittenLaws.{overwritten-append}
use Rattle.asn1_bits.proofs.BufferLemmas.{digits-zero, bits-zeros}
use Rattle.asn1_bits.proofs.OredLemmas.{ored-append_left, ored-zeros}
use Rattle.asn1_bits.proofs.EightLemmas.{eight-stored}
use Rattle.asn1_bits.proofs.ReadWideLemmas.{read-word}
use Rattle.asn1_bits.proofs.WindowLemmas.{low-part, window_is}

-- bits that are ORed into zeros are written over what was there
pub overwritten-ored : (old src : List Bool) (place n : ℕ) → length src ≡ n → place + n ≤ length old
    → ored (overwritten old place (replicate n false)) place src ≡ overwritten old place src
unfolding overwritten
overwritten-ored old src place n e h =
    let front = take place old in
    let zeros = replicate n false in
    let at : length front ≡ place = omega (arith, length-take place old) in
    let z = length-replicate n false in
    let k : place + length zeros ≡ place + length src = omega (arith, z) in
    let back = drop (place + length src) old in
    ap (λ (j : ℕ). ored (front ++ (zeros ++ drop j old)) place src) k
    ∙ ap (λ (l : List Bool). ored l place src) (sym (append_assoc front zeros back))
    ∙ ored-append_left (front ++ zeros) back place src (omega (arith, at, z, length-append front zeros))
    ∙ ap (λ (l : List Bool). l ++ back)
    (ap (λ (j : ℕ). ored (front ++ zeros) j src) (sym at) ∙ ored-zeros front src n e)
    ∙ append_assoc front src back

-- zeros after zeros
pub zeros-more : (old now new : List Bool) (place next m n all : ℕ) → now ≡ overwritten old place (replicate m false)
    → new ≡ overwritten now next (replicate n false)
    → next ≡ place + m → all ≡ m + n → place ≤ length old → new ≡ overwritten old place (replicate all false)
zeros-more old now new place next m n all e f at sum h =
    f
    ∙ ap (λ (l : List Bool). overwritten l next (replicate n false)) e
    ∙ overwritten-append old place next (replicate m false) (replicate n false)
    (omega (arith, at, length-replicate m false)) h
    ∙ ap (overwritten old place) (replicate-append-replicate m n false ∙ ap (λ (k : ℕ). replicate k false) (sym sum))

-- ---- in an octet

-- an octet without some of its digits
pub octet-cleared : (o s c : ℕ) → o < 256 → s + c ≤ 8
    → (o / 2 ^ (8 - s) * 2 ^ (8 - s) % 65536 + o % (1 * 2 ^ (8 - s - c) % 65536) < 256)
    × (digits (o / 2 ^ (8 - s) * 2 ^ (8 - s) % 65536 + o % (1 * 2 ^ (8 - s - c) % 65536)) 8 ≡ overwritten (digits o 8) s
    (replicate c false))
unfolding overwritten
octet-cleared o s c small h =
    let k = 8 - s in
    let j = 8 - s - c in
    let a = o / 2 ^ k in
    let low = o % 2 ^ j in
    let zeros = replicate c false in
    let whole : 8 ≡ s + k = omega arith in
    let part : k ≡ c + j = omega arith in
    let tail : 8 ≡ s + c + j = omega arith in
    let pk : 2 ^ j ≤ 2 ^ k = pow-le-pow_right {n = 2} (omega arith) {i = j} {j = k} (omega arith) in
    let below : low < 2 ^ j = mod_below o (2 ^ j) (pow_pos j) in
    let inside : o < 2 ^ (s + k) = rw (ap (λ (m : ℕ). 2 ^ m) (sym whole)) small in
    let high : a < 2 ^ s = shr_below o s k inside in
    let sum : a * 2 ^ k + o % 2 ^ k ≡ o = div-add-mod' o (2 ^ k) in
    let first : a * 2 ^ k % 65536 ≡ a * 2 ^ k = mod-eq_of_lt (omega (arith, sum, small)) in
    let second : 1 * 2 ^ j % 65536 ≡ 2 ^ j = one_shl j 16 (omega arith) in
    let n = a * 2 ^ k + low in
    let is : a * 2 ^ k % 65536 + o % (1 * 2 ^ j % 65536) ≡ n = ap (λ (m : ℕ). m + o % (1 * 2 ^ j % 65536)) first
    ∙ ap (λ (m : ℕ). a * 2 ^ k + o % m) second in
    let power : 2 ^ s * 2 ^ k ≡ 2 ^ 8 = sym (pow-add 2 s k) ∙ ap (λ (m : ℕ). 2 ^ m) (sym whole) in
    let fits : n < 256 = omega (arith, power, mul-add-lt a (2 ^ k) low (2 ^ s) high (omega (arith, below, pk))) in
    let new : digits n 8 ≡ digits a s ++ (zeros ++ digits o j) =
    ap (digits n) whole
    ∙ digits-append n s k
    ∙ ap (λ (m : ℕ). digits m s ++ digits n k) (shr_high a k low (omega (arith, below, pk)))
    ∙ ap (λ (l : List Bool). digits a s ++ l) (digits-low a low k ∙ ap (digits low) part ∙ digits-append low c j
    ∙ ap (λ (m : ℕ). digits m c ++ digits low j) (div-eq_of_lt below)
    ∙ ap (λ (l : List Bool). l ++ digits low j) (digits-zero c)
    ∙ ap (λ (l : List Bool). zeros ++ l) (digits-mod o j)) in
    let front : take s (digits o 8) ≡ digits a s =
    ap (take s) (ap (digits o) whole ∙ digits-append o s k) ∙ take_at (digits a s) (digits o k) s (length-digits a s) in
    let at : s + length zeros ≡ s + c = omega (arith, length-replicate c false) in
    let back : drop (s + length zeros) (digits o 8) ≡ digits o j =
    ap (λ (m : ℕ). drop m (digits o 8)) at ∙ ap (λ (m : ℕ). drop (s + c) (digits o m)) tail ∙ low-part o (s + c) j in (
      rw is fits,
      ap (λ (m : ℕ). digits m 8) is ∙ new
          ∙ sym (ap (λ (l : List Bool). l ++ (zeros ++ drop (s + length zeros) (digits o 8))) front
          ∙ ap (λ (l : List Bool). digits a s ++ (zeros ++ l)) back),
    )

-- what is written inside a part stays between the others
overwritten-inside : (front mid back list : List Bool) (place s : ℕ) → place ≡ length front + s
    → s + length list ≤ length mid
    → overwritten (front ++ (mid ++ back)) place list ≡ front ++ (overwritten mid s list ++ back)
unfolding overwritten
overwritten-inside front mid back list place s e h =
    let n = length list in
    let all = front ++ (mid ++ back) in
    let end : place + n ≡ length front + (s + n) = omega (arith, e) in
    let head : take place all ≡ front ++ take s mid =
    ap (λ (k : ℕ). take k all) e ∙ take-append-add front (mid ++ back) s
    ∙ ap (λ (l : List Bool). front ++ l) (take-append-le s mid back (omega arith)) in
    let rest : drop (place + n) all ≡ drop (s + n) mid ++ back =
    ap (λ (k : ℕ). drop k all) end ∙ drop-append-add front (mid ++ back) (s + n) ∙ drop-append-le (s + n) mid back h in
    ap (λ (l : List Bool). l ++ (list ++ drop (place + n) all)) head
    ∙ ap (λ (l : List Bool). (front ++ take s mid) ++ (list ++ l)) rest
    ∙ append_assoc front (take s mid) (list ++ (drop (s + n) mid ++ back))
    ∙ ap (λ (l : List Bool). front ++ l)
    (ap (λ (l : List Bool). take s mid ++ l) (sym (append_assoc list (drop (s + n) mid) back))
    ∙ sym (append_assoc (take s mid) (list ++ drop (s + n) mid) back))

-- an octet, some of whose digits were written over, among the others
pub octet-put : (octets : List ℕ) (q new s place : ℕ) (list : List Bool) → q < length octets → s + length list ≤ 8
    → place ≡ 8 * q + s
    → digits new 8 ≡ overwritten (digits (get_or octets q 0) 8) s list
    → bits (set octets q new) ≡ overwritten (bits octets) place list
unfolding bits
octet-put octets q new s place list h fits at e =
    let o = get_or octets q 0 in
    let front = take q octets in
    let rest = drop (q + 1) octets in
    let len : length front ≡ q = omega (arith, length-take q octets) in
    let split : octets ≡ front ++ (o ∷ rest) = sym (take-append-drop q octets)
    ∙ ap (λ (l : List ℕ). front ++ l) (drop_more octets q 0 h) in
    ap bits (ap (λ (l : List ℕ). set l q new) split ∙ set_at front o rest new q len)
    ∙ bits-append front (new ∷ rest)
    ∙ ap (λ (l : List Bool). bits front ++ (l ++ bits rest)) e
    ∙ sym (ap (λ (l : List Bool). overwritten l place list) (ap bits split ∙ bits-append front (o ∷ rest))
    ∙ overwritten-inside (bits front) (digits o 8) (bits rest) list place s (omega (arith, at, len, length-bits front))
    (omega (arith, fits, length-digits o 8)))

-- ---- whole octets

-- octets of 0 are bits that are zeros
pub octets-cleared : (octets : List ℕ) (q n : ℕ)
    → bits (take q octets ++ (replicate n 0 ++ drop (q + n) octets)) ≡ overwritten (bits octets) (8 * q)
    (replicate (8 * n) false)
unfolding overwritten
octets-cleared octets q n =
    let all = bits octets in
    let past : 8 * (q + n) ≡ 8 * q + length (replicate (8 * n) false) = omega (arith, length-replicate (8 * n) false) in
    bits-append (take q octets) (replicate n 0 ++ drop (q + n) octets)
    ∙ ap (λ (l : List Bool). l ++ bits (replicate n 0 ++ drop (q + n) octets)) (bits-take q octets)
    ∙ ap (λ (l : List Bool). take (8 * q) all ++ l) (bits-append (replicate n 0) (drop (q + n) octets)
    ∙ ap (λ (l : List Bool). l ++ bits (drop (q + n) octets)) (bits-zeros n)
    ∙ ap (λ (l : List Bool). replicate (8 * n) false ++ l) (bits-drop (q + n) octets ∙ ap (λ (k : ℕ). drop k all) past))

-- ---- in a word

-- a number moved within a word
below_word : (n width rest : ℕ) → n < 2 ^ width → width + rest ≤ 64 → n * 2 ^ rest < 2 ^ 64
below_word n width rest h fits =
    let top : 2 ^ (width + rest) ≤ 2 ^ 64 = pow-le-pow_right {n = 2} (omega arith) {i = width + rest} {j = 64} fits in
    omega (arith, shl_below n width rest h, top)

-- a word that has the lowest digits of another from one of its digits on
pub word-replaced : (old word shift width there moved : ℕ) → shift + width ≤ 64 → old < 2 ^ 64
    → there ≡ old * 2 ^ shift % 2 ^ 64 / 2 ^ (64 - width) * 2 ^ (64 - shift - width) % 2 ^ 64
    → moved ≡ word * 2 ^ (64 - width) % 2 ^ 64 / 2 ^ shift
    → (there ≤ old) × (old - there + moved < 2 ^ 64)
    × (digits (old - there + moved) 64 ≡ overwritten (digits old 64) shift (digits word width))
unfolding overwritten
word-replaced old word shift width there moved fits small t m =
    let b = 64 - shift - width in
    let all = digits old 64 in
    let front = take shift all in
    let mid = take width (drop shift all) in
    let back = drop (shift + width) all in
    let list = digits word width in
    let n = length-digits old 64 in
    let up : 64 - width ≡ b + shift = omega arith in
    let size_is : 64 ≡ width + (b + shift) = omega arith in
    let of_mid : length mid ≡ width = omega (arith, n, length-take width (drop shift all), length-drop shift all) in
    let of_back : length back ≡ b = omega (arith, n, length-drop (shift + width) all) in
    let of_list : length list ≡ width = length-digits word width in
    let split : all ≡ front ++ (mid ++ back) = sym
    (ap (λ (l : List Bool). front ++ (mid ++ l)) (sym (drop-drop width shift all))
    ∙ ap (λ (l : List Bool). front ++ l) (take-append-drop width (drop shift all)) ∙ take-append-drop shift all) in
    let value : (x : List Bool) → length x ≡ width
    → number (front ++ (x ++ back)) ≡ number front * 2 ^ (width + b) + (number x * 2 ^ b + number back) =
    λ x e. let both : length (x ++ back) ≡ width + b = omega (arith, length-append x back, e, of_back) in
    number-append front (x ++ back)
    ∙ ap (λ (k : ℕ). number front * 2 ^ k + number (x ++ back)) both
    ∙ ap (λ (k : ℕ). number front * 2 ^ (width + b) + k)
    (number-append x back ∙ ap (λ (k : ℕ). number x * 2 ^ k + number back) of_back) in
    let whole : old ≡ number front * 2 ^ (width + b) + (number mid * 2 ^ b + number back) =
    sym (number_of-digits old 64 small) ∙ ap number split ∙ value mid of_mid in
    let there_is : there ≡ number mid * 2 ^ b =
    t
    ∙ ap (λ (k : ℕ). k * 2 ^ b % 2 ^ 64)
    (read-word all 0 shift width old fits (sym (take_all 64 all (omega (arith, n))))
    ∙ ap (λ (k : ℕ). number (take width (drop k all))) (zero-add shift))
    ∙ mod-eq_of_lt (below_word (number mid) width b (number-below mid width (omega (arith, of_mid))) (omega arith)) in
    let moved_is : moved ≡ number list * 2 ^ b =
    m
    ∙ ap (λ (k : ℕ). word * 2 ^ k % 2 ^ 64 / 2 ^ shift) up
    ∙ ap (λ (k : ℕ). word * 2 ^ (b + shift) % 2 ^ k / 2 ^ shift) size_is
    ∙ window_is word width b shift
    ∙ ap (λ (k : ℕ). k * 2 ^ b) (sym (number-digits word width)) in
    let new = front ++ (list ++ back) in
    let sum : old - there + moved ≡ number new = omega (arith, whole, there_is, moved_is, value list of_list) in
    let size : length new ≡ 64 = omega (
      arith,
      length-append front (list ++ back),
      length-append list back,
      of_list,
      of_back,
      length-take shift all,
      n,
    ) in
    let past : shift + length list ≡ shift + width = omega (arith, of_list) in (
      omega (arith, whole, there_is),
      omega (arith, sum, number-below new 64 (omega (arith, size))),
      ap (λ (k : ℕ). digits k 64) sum ∙ digits_of-number new 64 size
          ∙ ap (λ (k : ℕ). front ++ (list ++ drop k all)) (sym past),
    )

-- a word that was stored for the eight octets that stood there
pub word-written : (octets new eight : List ℕ) (old word q place width : ℕ)
    → new ≡ take q octets ++ (eight ++ drop (q + 8) octets) → length eight ≡ 8 → q + 8 ≤ length octets
    → place / 8 ≡ q → place % 8 + width ≤ 64
    → digits old 64 ≡ take 64 (drop (8 * q) (bits octets))
    → bits eight ≡ overwritten (digits old 64) (place % 8) (digits word width)
    → bits new ≡ overwritten (bits octets) place (digits word width)
word-written octets new eight old word q place width e n room at fits is w =
    let all = bits octets in
    let front = take (8 * q) all in
    let mid = digits old 64 in
    let back = drop (8 * q + 64) all in
    let split : all ≡ front ++ (mid ++ back) = sym
    (ap (λ (l : List Bool). front ++ (l ++ back)) is
    ∙ ap (λ (l : List Bool). front ++ (take 64 (drop (8 * q) all) ++ l)) (sym (drop-drop 64 (8 * q) all))
    ∙ ap (λ (l : List Bool). front ++ l) (take-append-drop 64 (drop (8 * q) all)) ∙ take-append-drop (8 * q) all) in
    eight-stored octets new eight q e n
    ∙ ap (λ (l : List Bool). front ++ (l ++ back)) w
    ∙ sym (ap (λ (l : List Bool). overwritten l place (digits word width)) split
    ∙ overwritten-inside front mid back (digits word width) place (place % 8)
    (omega (arith, length-take (8 * q) all, length-bits octets)) (omega (arith, length-digits word width, length-digits old 64)))

-- ---- two words

-- the digits of a number, written as those of two words
pub two-written : (old one two : List Bool) (place next n high low rest width : ℕ) → width ≡ high + low → next ≡ place + high
    → place ≤ length old → one ≡ overwritten old place (digits (n / 2 ^ low) high)
    → digits rest low ≡ digits n low → two ≡ overwritten one next (digits rest low)
    → two ≡ overwritten old place (digits n width)
two-written old one two place next n high low rest width w at h e r f =
    f
    ∙ ap (λ (l : List Bool). overwritten l next (digits rest low)) e
    ∙ overwritten-append old place next (digits (n / 2 ^ low) high) (digits rest low)
    (omega (arith, at, length-digits (n / 2 ^ low) high)) h
    ∙ ap (λ (l : List Bool). overwritten old place (digits (n / 2 ^ low) high ++ l))
    r
    ∙ ap (overwritten old place) (sym (ap (digits n) w ∙ digits-append n high low))
