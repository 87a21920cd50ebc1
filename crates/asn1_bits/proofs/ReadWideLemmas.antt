-- The number of bits that are read octet by octet.
use Rattle.std.proofs.Common.{◌≡◌, ℕ, ◌+◌, ◌-◌, ◌*◌, ◌/◌, ◌%◌, ◌^◌, ◌<◌, ◌≤◌, Bool, false, List, [], ◌++◌, length, get_or, take, drop, replicate, sym, ap, ◌∙◌, append_assoc, arith}
use Rattle.std.specs.Prelude.{bit_and, bit_or}
use Rattle.std.proofs.Math.Nat.{pow-le-pow_right, mod-eq_of_lt}
use Rattle.std.proofs.Math.Seq.{take-add}
use Rattle.std.proofs.lemmas.List.{take_at, drop-drop, length-take, length-drop, take_more, take-take, drop-take, take-append-drop, take-append-le, append-nil, drop_at, drop-append-le}
use Rattle.std.proofs.lemmas.Nat.{shr_high, and_mask, or_shifted, shl_whole, shr_below, field_of, shr-shr, shl-shr}
use Rattle.std.proofs.lemmas.Nat.Bits.{ones_shr}
use Rattle.asn1_bits.specs.Bits.{digits, number, bits}
use Rattle.asn1_bits.specs.Laws.DigitLaws.{length-digits, length-bits, bits-take, bits-push}
use Rattle.asn1_bits.specs.Laws.ByteLaws.{digits-mod}
use Rattle.asn1_bits.proofs.WindowLemmas.{low-part, shifted-digits}
use Rattle.asn1_bits.specs.Laws.NumberLaws.{number_is, number-append, number-digits, number-lt, digits-append, digits-low}
use Rattle.asn1_bits.specs.View.{View, IsWithin, list_of}
use Rattle.asn1_bits.specs.Laws.ViewLaws.{length-list_of, list_of-part}

-- the number of the bits of the first k octets, but for the first shift bits
abbrev pub gathered : List ℕ → ℕ → ℕ → ℕ
gathered field shift k = number (drop shift (bits (take k field)))

octet_number : (o : ℕ) → o < 256 → number (digits o 8) ≡ o
octet_number o h = number-digits o 8 ∙ omega arith

-- one octet more of the field
pub gathered-more : (field : List ℕ) (shift k : ℕ) → shift ≤ 8 * k → k < length field → get_or field k 0 < 256
    → gathered field shift (k + 1) ≡ gathered field shift k * 256 + get_or field k 0
gathered-more field shift k h lt small =
    let o = get_or field k 0 in
    let front = bits (take k field) in
    ap (λ (l : List ℕ). number (drop shift (bits l))) (take_more field k 0 lt)
    ∙ ap (λ (l : List Bool). number (drop shift l)) (bits-push (take k field) o)
    ∙ ap number (drop-append-le shift front (digits o 8)
    (omega (arith, length-bits (take k field), length-take k field)))
    ∙ number-append (drop shift front) (digits o 8)
    ∙ ap (λ (n : ℕ). number (drop shift front) * 2 ^ n + number (digits o 8)) (length-digits o 8)
    ∙ ap (λ (n : ℕ). number (drop shift front) * 256 + n) (octet_number o small)

low-digits : (o shift : ℕ) → shift ≤ 8 → drop shift (digits o 8) ≡ digits o (8 - shift)
low-digits o shift h =
    let e : 8 ≡ shift + (8 - shift) = omega arith in
    ap (drop shift) (ap (digits o) e ∙ digits-append o shift (8 - shift))
    ∙ drop_at (digits (o / 2 ^ (8 - shift)) shift) (digits o (8 - shift)) shift
    (length-digits (o / 2 ^ (8 - shift)) shift)

-- the first octet, without the bits before the shift
pub gathered-first : (field : List ℕ) (shift : ℕ) → shift ≤ 8 → 0 < length field
    → bit_and (get_or field 0 0) (255 / 2 ^ shift) ≡ gathered field shift 1
unfolding bits
gathered-first field shift h lt =
    let o = get_or field 0 0 in
    ap (bit_and o) (ones_shr 8 shift h) ∙ and_mask o (8 - shift)
    ∙ sym (ap (λ (l : List ℕ). number (drop shift (bits l))) (take_more field 0 0 lt)
    ∙ ap (λ (l : List Bool). number (drop shift l)) (bits-push [] o)
    ∙ ap number (low-digits o shift h)
    ∙ number-digits o (8 - shift))

-- what is gathered is below the power of its bits
pub gathered-lt : (field : List ℕ) (shift k : ℕ) → k ≤ length field → gathered field shift k < 2 ^ (8 * k - shift)
gathered-lt field shift k h =
    let l = drop shift (bits (take k field)) in
    let n : length l ≡ 8 * k - shift =
    omega (arith, length-drop shift (bits (take k field)), length-bits (take k field), length-take k field) in
    rw n at (number-lt l)

-- the bits past the width go
pub gathered-end : (field : List ℕ) (shift width excess m : ℕ) → shift + width + excess ≡ 8 * m → m ≤ length field
    → number (take width (drop shift (bits field))) ≡ gathered field shift m / 2 ^ excess
gathered-end field shift width excess m e h =
    let all = drop shift (bits field) in
    let part = drop shift (bits (take m field)) in
    let sum : 8 * m ≡ shift + (width + excess) = omega arith in
    let is : part ≡ take (width + excess) all =
    ap (drop shift) (bits-take m field ∙ ap (λ (n : ℕ). take n (bits field)) sum)
    ∙ drop-take shift (width + excess) (bits field) in
    let front : take width part ≡ take width all = ap (take width) is
    ∙ take-take width (width + excess) all (omega arith) in
    let rest = drop width part in
    let n : length rest ≡ excess =
    omega (
      arith,
      length-drop width part,
      length-drop shift (bits (take m field)),
      length-bits (take m field),
      length-take m field,
    ) in
    let small : number rest < 2 ^ excess = rw n at (number-lt rest) in
    let whole : number part ≡ number (take width all) * 2 ^ excess + number rest =
    ap number (sym (take-append-drop width part)) ∙ number-append (take width part) rest
    ∙ ap (λ (l : List Bool). number l * 2 ^ length rest + number rest) front
    ∙ ap (λ (k : ℕ). number (take width all) * 2 ^ k + number rest) n in
    sym (ap (λ (k : ℕ). k / 2 ^ excess) whole ∙ shr_high (number (take width all)) excess (number rest) small)

-- as the code joins the two
pub joined : (g o k w top : ℕ) → g < 2 ^ top → top + k ≤ w → o < 2 ^ k → bit_or (g * 2 ^ k % 2 ^ w) o ≡ g * 2 ^ k + o
joined g o k w top h fits small = rw (shl_whole g top k w h fits) (or_shifted g k o small)

-- and fits a word, as long as fewer than eight octets are
pub gathered-fits : (field : List ℕ) (shift k : ℕ) → k ≤ length field → k < 8
    → gathered field shift k * 256 + 255 < 2 ^ 64
gathered-fits field shift k h lt =
    let top : 2 ^ (8 * k - shift) ≤ 2 ^ 56 =
    pow-le-pow_right {n = 2} (omega arith) {i = 8 * k - shift} {j = 56} (omega arith) in
    omega (arith, gathered-lt field shift k h, top)

-- what is read octet by octet
pub read-short : (field : List ℕ) (shift width excess needed value k : ℕ) → shift + width + excess ≡ 8 * needed
    → needed ≤ length field → k ≡ needed → value ≡ gathered field shift k
    → value / 2 ^ excess ≡ number (take width (drop shift (bits field)))
read-short field shift width excess needed value k e h n v =
    ap (λ (m : ℕ). m / 2 ^ excess) (v ∙ ap (gathered field shift) n)
    ∙ sym (gathered-end field shift width excess needed e h)

-- ---- words that are read

-- fewer than 64 bits, of a word of eight octets
pub read-word : (list : List Bool) (place shift width word : ℕ) → shift + width ≤ 64
    → digits word 64 ≡ take 64 (drop place list)
    → word * 2 ^ shift % 2 ^ 64 / 2 ^ (64 - width) ≡ number (take width (drop (place + shift) list))
read-word list place shift width word h e =
    let end = 64 - shift - width in
    let all = drop place list in
    let a : 64 ≡ width + (64 - width) = omega arith in
    let b : 64 - width ≡ shift + end = omega arith in
    let c : 64 ≡ shift + (width + end) = omega arith in
    let value : word * 2 ^ shift % 2 ^ 64 / 2 ^ (64 - width) ≡ word / 2 ^ end % 2 ^ width =
    ap (λ (k : ℕ). word * 2 ^ shift % 2 ^ k / 2 ^ (64 - width)) a
    ∙ field_of (word * 2 ^ shift) width (64 - width)
    ∙ ap (λ (k : ℕ). word * 2 ^ shift / 2 ^ k % 2 ^ width) b
    ∙ ap (λ (m : ℕ). m % 2 ^ width)
    (sym (shr-shr (word * 2 ^ shift) shift end) ∙ ap (λ (m : ℕ). m / 2 ^ end) (shl-shr word shift)) in
    let part : digits (word / 2 ^ end) width ≡ take width (drop (place + shift) list) =
    sym
    (ap (take width) (ap (λ (k : ℕ). drop shift (digits word k)) c ∙ low-part word shift (width + end)
    ∙ digits-append word width end)
    ∙ take_at (digits (word / 2 ^ end) width) (digits word end) width (length-digits (word / 2 ^ end) width))
    ∙ ap (λ (l : List Bool). take width (drop shift l)) (e ∙ ap (λ (k : ℕ). take k all) c)
    ∙ ap (take width) (drop-take shift (width + end) all)
    ∙ take-take width (width + end) (drop shift all) (omega arith)
    ∙ ap (take width) (drop-drop shift place list) in
    value ∙ sym (number-digits (word / 2 ^ end) width) ∙ ap number part

-- the first bits of a word that begins with them
pub read-top : (list : List Bool) (size width word : ℕ) → width ≤ size → word < 2 ^ size
    → digits word size ≡ take size list
    → word / 2 ^ (size - width) ≡ number (take width list)
read-top list size width word h small e =
    let end = size - width in
    let n = word / 2 ^ end in
    let s : size ≡ width + end = omega arith in
    let less : n < 2 ^ width = shr_below word width end (rw (ap (λ (k : ℕ). 2 ^ k) (sym s)) small) in
    let front : digits n width ≡ take width list =
    sym (ap (take width) (ap (digits word) s ∙ digits-append word width end)
    ∙ take_at (digits n width) (digits word end) width (length-digits n width))
    ∙ ap (take width) e ∙ take-take width size list h in
    sym (mod-eq_of_lt less) ∙ sym (number-digits n width) ∙ ap number front

-- two words, one after the other
pub pair-digits : (list : List Bool) (a b : ℕ) → a < 2 ^ 64 → b < 2 ^ 64 → digits a 64 ≡ take 64 list
    → digits b 64 ≡ take 64 (drop 64 list)
    → digits (bit_or (a * 2 ^ 64 % 2 ^ 128) b) 128 ≡ take 128 list
pair-digits list a b h k e f =
    ap (λ (m : ℕ). digits m 128) (joined a b 64 128 64 h (omega arith) k)
    ∙ digits-append (a * 2 ^ 64 + b) 64 64
    ∙ ap (λ (m : ℕ). digits m 64 ++ digits (a * 2 ^ 64 + b) 64) (shr_high a 64 b k)
    ∙ ap (λ (l : List Bool). digits a 64 ++ l) (digits-low a b 64 ∙ f)
    ∙ ap (λ (l : List Bool). l ++ take 64 (drop 64 list)) e
    ∙ sym (take-add 64 64 list)

-- more than 64 bits, of the word of the first and of the last 64
pub read-two : (list : List Bool) (place last width high low : ℕ) → 64 < width → width ≤ 128
    → last ≡ place + (width - 64)
    → high < 2 ^ 64 → low < 2 ^ 64
    → digits high 64 ≡ take 64 (drop place list) → digits low 64 ≡ take 64 (drop last list)
    → bit_or (high / 2 ^ (128 - width) * 2 ^ 64 % 2 ^ 128) low ≡ number (take width (drop place list))
read-two list place last width high low more most l hs ls a b =
    let all = drop place list in
    let top = width - 64 in
    let end = 128 - width in
    let g = high / 2 ^ end in
    let s : 64 ≡ top + end = omega arith in
    let w : width ≡ top + 64 = omega arith in
    let less : g < 2 ^ top = shr_below high top end (rw (ap (λ (k : ℕ). 2 ^ k) (sym s)) hs) in
    let back : take 64 (drop top all) ≡ digits low 64 =
    ap (take 64) (drop-drop top place list ∙ ap (λ (k : ℕ). drop k list) (sym l)) ∙ sym b in
    let front : take top all ≡ digits g top =
    sym (take-take top 64 all (omega arith)) ∙ ap (take top) (sym a ∙ ap (digits high) s ∙ digits-append high top end)
    ∙ take_at (digits g top) (digits high end) top (length-digits g top) in
    joined g low 64 128 top less (omega arith) ls
    ∙ sym (ap (λ (k : ℕ). number (take k all)) w
    ∙ ap number (take-add top 64 all)
    ∙ ap (λ (x : List Bool). number (x ++ take 64 (drop top all))) front
    ∙ ap (λ (x : List Bool). number (digits g top ++ x)) back
    ∙ number-append (digits g top) (digits low 64)
    ∙ ap (λ (k : ℕ). number (digits g top) * 2 ^ k + number (digits low 64)) (length-digits low 64)
    ∙ ap (λ (m : ℕ). m * 2 ^ 64 + number (digits low 64)) (number-digits g top ∙ mod-eq_of_lt less)
    ∙ ap (λ (m : ℕ). g * 2 ^ 64 + m) (number-digits low 64 ∙ omega (arith, ls)))

-- bits of a view from one of them on are in its storage
pub cut-storage : (v : View) (at n : ℕ) → at + n ≤ v.len → take n (drop (v.first + at) (bits v.storage)) ≡ take n (drop at (list_of v))
unfolding list_of
cut-storage v at n h = list_of-part v at n h

-- the number of a view's first bits, which was read in its storage
pub record IsFront (v : View) (width n : ℕ) : Type 0 where
  pub number : n ≡ number (take width (list_of v))
  pub digits : digits n width ≡ take width (list_of v)
  pub below : n < 2 ^ width

pub front-read : (v : View) (width n : ℕ) → IsWithin v → width ≤ v.len → n ≡ number (take width (drop v.first (bits v.storage)))
    → IsFront v width n
unfolding list_of
front-read v width n within h e =
    let rest = drop v.first (bits v.storage) in
    let is : n ≡ number (take width (list_of v)) = e ∙ ap number (sym (take-take width v.len rest h)) in
    let len : length (take width (list_of v)) ≡ width =
    length-take width (list_of v) ∙ omega (arith, length-list_of v within, h) in
    let told = number_is (take width (list_of v)) n width len is in
    record { number = is; digits = told.1; below = told.0 }

-- ---- nine octets, and seventeen

-- 64 digits of two words, by one shift of 128
pub from-two : (a b shift : ℕ) → shift < 8 → a < 2 ^ 64 → b < 2 ^ 64
    → digits (bit_or (a * 2 ^ 64 % 2 ^ 128) b * 2 ^ shift % 2 ^ 128 / 2 ^ 64) 64 ≡ take 64
    (drop shift (digits a 64 ++ digits b 64))
from-two a b shift h small low =
    let n = a * 2 ^ 64 + b in
    let end = 64 - shift in
    let top = n / 2 ^ end in
    let s : 64 ≡ shift + end = omega arith in
    let w : 128 ≡ shift + (64 + end) = omega arith in
    let value : n * 2 ^ shift % 2 ^ 128 / 2 ^ 64 ≡ top % 2 ^ 64 =
    field_of (n * 2 ^ shift) 64 64
    ∙ ap (λ (k : ℕ). n * 2 ^ shift / 2 ^ k % 2 ^ 64) s
    ∙ ap (λ (m : ℕ). m % 2 ^ 64)
    (sym (shr-shr (n * 2 ^ shift) shift end) ∙ ap (λ (m : ℕ). m / 2 ^ end) (shl-shr n shift)) in
    let part : take 64 (drop shift (digits n 128)) ≡ digits top 64 =
    ap (λ (k : ℕ). take 64 (drop shift (digits n k))) w
    ∙ ap (take 64) (low-part n shift (64 + end) ∙ digits-append n 64 end)
    ∙ take_at (digits top 64) (digits n end) 64 (length-digits top 64) in
    let whole : digits n 128 ≡ digits a 64 ++ digits b 64 =
    digits-append n 64 64
    ∙ ap (λ (m : ℕ). digits m 64 ++ digits n 64) (shr_high a 64 b low)
    ∙ ap (λ (l : List Bool). digits a 64 ++ l) (digits-low a b 64) in
    ap (λ (m : ℕ). digits (m * 2 ^ shift % 2 ^ 128 / 2 ^ 64) 64) (joined a b 64 128 64 small (omega arith) low)
    ∙ ap (λ (m : ℕ). digits m 64) value
    ∙ digits-mod top 64
    ∙ sym part
    ∙ ap (λ (l : List Bool). take 64 (drop shift l)) whole

-- 64 bits that lie in the front of a list
part-of-front : (list rest : List Bool) (n shift : ℕ) → 64 + shift ≤ n → n ≤ length list
    → take 64 (drop shift (take n list ++ rest)) ≡ take 64 (drop shift list)
part-of-front list rest n shift h k =
    let m = n - shift in
    let s : n ≡ shift + m = omega arith in
    let all : length (take n list) ≡ n = omega (arith, length-take n list) in
    ap (take 64) (drop-append-le shift (take n list) rest (omega (arith, all)))
    ∙ take-append-le 64 (drop shift (take n list)) rest (omega (arith, all, length-drop shift (take n list)))
    ∙ ap (take 64) (ap (λ (j : ℕ). drop shift (take j list)) s ∙ drop-take shift m list)
    ∙ take-take 64 m (drop shift list) (omega arith)

-- those of nine octets, of the word of eight and the ninth
pub nine-digits : (list : List Bool) (a o shift : ℕ) → shift < 8 → 72 ≤ length list
    → digits a 64 ≡ take 64 list → digits o 8 ≡ take 8 (drop 64 list)
    → take 64 (drop shift (digits a 64 ++ digits (o * 2 ^ 56 % 2 ^ 64) 64)) ≡ take 64 (drop shift list)
nine-digits list a o shift h room e f =
    let zeros = replicate 56 false in
    let ninth : digits (o * 2 ^ 56 % 2 ^ 64) 64 ≡ take 8 (drop 64 list) ++ zeros =
    digits-mod (o * 2 ^ 56) 64 ∙ shifted-digits o 8 56 ∙ ap (λ (l : List Bool). l ++ zeros) f in
    ap (λ (l : List Bool). take 64 (drop shift (l ++ digits (o * 2 ^ 56 % 2 ^ 64) 64))) e
    ∙ ap (λ (l : List Bool). take 64 (drop shift (take 64 list ++ l))) ninth
    ∙ ap (λ (l : List Bool). take 64 (drop shift l))
    (sym (append_assoc (take 64 list) (take 8 (drop 64 list)) zeros)
    ∙ ap (λ (l : List Bool). l ++ zeros) (sym (take-add 64 8 list)))
    ∙ part-of-front list zeros 72 shift (omega arith) room

-- those of sixteen octets, of two words
pub sixteen-digits : (list : List Bool) (a b shift : ℕ) → shift < 8 → 128 ≤ length list
    → digits a 64 ≡ take 64 list → digits b 64 ≡ take 64 (drop 64 list)
    → take 64 (drop shift (digits a 64 ++ digits b 64)) ≡ take 64 (drop shift list)
sixteen-digits list a b shift h room e f =
    ap (λ (l : List Bool). take 64 (drop shift (l ++ digits b 64))) e
    ∙ ap (λ (l : List Bool). take 64 (drop shift (take 64 list ++ l))) f
    ∙ ap (λ (l : List Bool). take 64 (drop shift l)) (sym (take-add 64 64 list) ∙ sym (append-nil (take 128 list)))
    ∙ part-of-front list [] 128 shift (omega arith) room

-- the bits of octets from octet `first` on are 64 fewer eight octets later
pub eight-later : (octets : List ℕ) (first n : ℕ)
    → take n (drop (8 * (first + 8)) (bits octets)) ≡ take n (drop 64 (drop (8 * first) (bits octets)))
eight-later octets first n =
    let next : 8 * (first + 8) ≡ 8 * first + 64 = omega arith in
    ap (take n) (ap (λ (k : ℕ). drop k (bits octets)) next ∙ sym (drop-drop 64 (8 * first) (bits octets)))
