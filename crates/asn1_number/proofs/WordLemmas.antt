-- Lemmas on the first eight octets of a number.
use Rattle.std.proofs.Common.{◌≡◌, ℕ, zero, suc, ◌+◌, ◌-◌, ◌*◌, ◌/◌, ◌%◌, ◌^◌, ◌<◌, ◌≤◌, ◌<ℤ◌, ℤ, pos, negsuc, ◌+ℤ◌, ◌*ℤ◌, List, [], ◌∷◌, ◌++◌, length, take, drop, get_or, refl, sym, ap, subst, ◌∙◌, arith, ⊎_elim, length-append, length-take}
use Rattle.std.proofs.lemmas.List.{length-drop, take-append-drop}
use Rattle.std.proofs.lemmas.Nat.{pow-add, be_bytes_8, mod_below, same_from_place}
use Rattle.std.proofs.Math.Nat.{pow-le-pow_right, div-add-mod'}
use Rattle.std.proofs.lemmas.Bool.{cases_lt, lt-ltb, le-ltb}
use mir.Val.{SFits, sel}
use lib.Dec.{ltb}
use borrow.Author.Differences.{up, down, sum_is_lem, product_is, same_in}
use Rattle.std.proofs.Math.Seq.{take-length}
use Rattle.std.proofs.lemmas.Int.{ints, of_z-to_z}
use Rattle.std.specs.Cmp.{int_cmp_is}
use Rattle.std.proofs.lemmas.Cmp.{int_ranked, ranked}
use Rattle.std.specs.declared.cmp.Ordering.{Ordering}
use Rattle.std.specs.declared.cmp.Ordering.TheVariants.{Less, Equal, Greater}
use Rattle.std.specs.Int.{from_be_bytes, cast_signed, cast_unsigned, w64, w128}
use Rattle.std.specs.Ordering.{MatchOrdering, int_cmp, nat_cmp}
use Rattle.asn1_number.specs.Octets.{IsOctets, unsigned, signed}
use Rattle.asn1_number.specs.Laws.OctetLaws.{unsigned-cons, unsigned_nil, low_parts, high_parts, signed_range, octets-drop}
use Rattle.asn1_number.specs.Laws.WidthLaws.{unsigned-bytes, signed-bytes, signed_as_bits, signed_more, octet_at, octets-take, fits_by_parts}

-- a word's bytes encode it
pub word_value : (o : List ℕ) (n : ℕ) → length o ≡ 8 → ((i : ℕ) → get_or o i 0 < 256) → n ≡ from_be_bytes w64 o
    → n < 2 ^ 64 → cast_signed w64 n ≡ signed o
word_value o n l h e s = sym (signed-bytes 7 n s) ∙ ap signed (be_bytes_8 o n l h e)

pub word_sum : (o : List ℕ) (n : ℕ) → length o ≡ 8 → ((i : ℕ) → get_or o i 0 < 256) → n ≡ from_be_bytes w64 o
    → n < 2 ^ 64 → n ≡ unsigned o
word_sum o n l h e s = sym (unsigned-bytes 8 n s) ∙ ap unsigned (be_bytes_8 o n l h e)

-- eight octets more
unsigned-eight_more : (o w : List ℕ) → length w ≡ 8 → unsigned (o ++ w) ≡ unsigned o * 2 ^ 64 + unsigned w
unsigned-eight_more [] w l = omega (arith, unsigned_nil)
unsigned-eight_more (b ∷ bs) w l =
    let n : length (bs ++ w) ≡ length bs + 8 = omega (arith, length-append bs w) in
    let p : 256 ^ length (bs ++ w) ≡ 256 ^ length bs * 2 ^ 64 = ap (λ (k : ℕ). 256 ^ k) n ∙ pow-add 256 (length bs) 8 in
    let q : b * 256 ^ length (bs ++ w) ≡ b * (256 ^ length bs * 2 ^ 64) = ap (λ x. b * x) p in
    unsigned-cons b (bs ++ w) ∙ omega (arith, q, unsigned-eight_more bs w l, unsigned-cons b bs)

octets-joined : (o w : List ℕ) → IsOctets o → IsOctets w → IsOctets (o ++ w)
octets-joined [] w h g = g
octets-joined (b ∷ bs) w h g = (h.0, octets-joined bs w h.1 g)

pub signed-eight_more : (o w : List ℕ) → 0 < length o → IsOctets o → IsOctets w → length w ≡ 8
    → signed (o ++ w) ≡ signed o *ℤ pos (2 ^ 64) +ℤ pos (unsigned w)
signed-eight_more [] w some h g l = absurd (omega arith)
signed-eight_more (b ∷ bs) w some h g l = ⊎_elim low high (cases_lt b 128)
  where
    u : unsigned ((b ∷ bs) ++ w) ≡ unsigned (b ∷ bs) * 2 ^ 64 + unsigned w
    u = unsigned-eight_more (b ∷ bs) w l

    s : up (signed (b ∷ bs) *ℤ pos (2 ^ 64) +ℤ pos (unsigned w)) + down (signed (b ∷ bs) *ℤ pos (2 ^ 64)) + 0 ≡ down
        (signed (b ∷ bs) *ℤ pos (2 ^ 64) +ℤ pos (unsigned w)) + up (signed (b ∷ bs) *ℤ pos (2 ^ 64)) + unsigned w
    s = sum_is_lem (signed (b ∷ bs) *ℤ pos (2 ^ 64)) (pos (unsigned w))

    m : (up (signed (b ∷ bs) *ℤ pos (2 ^ 64)) ≡ up (signed (b ∷ bs)) * 2 ^ 64 + down (signed (b ∷ bs)) * 0)
        × (down (signed (b ∷ bs) *ℤ pos (2 ^ 64)) ≡ up (signed (b ∷ bs)) * 0 + down (signed (b ∷ bs)) * 2 ^ 64)
    m = product_is (signed (b ∷ bs)) (pos (2 ^ 64))

    low : b < 128 → signed ((b ∷ bs) ++ w) ≡ signed (b ∷ bs) *ℤ pos (2 ^ 64) +ℤ pos (unsigned w)
    low i = same_in _ _ (omega (arith, low_parts b bs i, low_parts b (bs ++ w) i, u, s, m))

    high : 128 ≤ b → signed ((b ∷ bs) ++ w) ≡ signed (b ∷ bs) *ℤ pos (2 ^ 64) +ℤ pos (unsigned w)
    high i =
        let k : length ((b ∷ bs) ++ w) ≡ length (b ∷ bs) + 8 = omega (arith, length-append (b ∷ bs) w) in
        let n : 256 ^ length ((b ∷ bs) ++ w) ≡ 256 ^ length (b ∷ bs) * 2 ^ 64 =
        ap (λ (k : ℕ). 256 ^ k) k ∙ pow-add 256 (length (b ∷ bs)) 8 in
        same_in _ _
        (omega (arith, high_parts b bs h i, high_parts b (bs ++ w) (octets-joined (b ∷ bs) w h g) i, u, s, m, n))

-- eight octets leave room for eight more
pub word_times_fits : (o : List ℕ) → IsOctets o → 0 < length o → length o ≤ 8 → SFits w128 (signed o *ℤ pos (2 ^ 64))
word_times_fits [] h some few = absurd (omega arith)
word_times_fits (b ∷ bs) h some few =
    let r = signed_range b bs h in
    let p : 256 ^ length bs ≤ 256 ^ 7 = pow-le-pow_right (omega arith) {i = length bs} {j = 7} (omega arith) in
    let m = product_is (signed (b ∷ bs)) (pos (2 ^ 64)) in
    fits_by_parts (signed (b ∷ bs) *ℤ pos (2 ^ 64)) (omega arith) (omega arith)

-- what the first octets tell apart, more of them do
below_with_more : (m k : ℕ) (a b : List ℕ) → IsOctets a → IsOctets b → 0 < k → k + m ≤ length a → length a ≡ length b
    → signed (take k a) <ℤ signed (take k b) → signed (take (k + m) a) <ℤ signed (take (k + m) b)
below_with_more zero k a b h g p l e s =
    let same : k ≡ k + 0 = omega arith in
    subst (λ (i : ℕ). signed (take i a) <ℤ signed (take i b)) same s
below_with_more (suc m) k a b h g p l e s =
    let more : signed (take (k + 1) a) <ℤ signed (take (k + 1) b) =
    let x = signed_more a k h p (omega arith) in
    let y = signed_more b k g p (omega arith) in
    let c = octet_at a k h in
    omega (arith, ints) in
    let same : k + 1 + m ≡ k + suc m = omega arith in
    subst (λ (i : ℕ). signed (take i a) <ℤ signed (take i b)) same
    (below_with_more m (k + 1) a b h g (omega arith) (omega arith) e more)

pub below_by_first : (k : ℕ) (a b : List ℕ) → IsOctets a → IsOctets b → 0 < k → k ≤ length a → length a ≡ length b
    → signed (take k a) <ℤ signed (take k b) → signed a <ℤ signed b
below_by_first k a b h g p l e s =
    let all : k + (length a - k) ≡ length a = omega arith in
    let t : signed (take (length a) a) <ℤ signed (take (length a) b) =
    subst (λ (i : ℕ). signed (take i a) <ℤ signed (take i b)) all
    (below_with_more (length a - k) k a b h g p (omega arith) e s) in
    let ea : take (length a) a ≡ a = take-length a in
    let eb : take (length a) b ≡ b = ap (λ (i : ℕ). take i b) e ∙ take-length b in
    subst (λ x. x <ℤ signed b) (ap signed ea) (subst (λ x. signed (take (length a) a) <ℤ x) (ap signed eb) t)

-- two numbers of one length are ordered as their first octets, where these differ
pub order_by_first : (k : ℕ) (a b : List ℕ) → IsOctets a → IsOctets b → 0 < k → k ≤ length a → length a ≡ length b
    → (signed (take k a) ≡ signed (take k b) → ⊥)
    → int_cmp (signed (take k a)) (signed (take k b)) ≡ int_cmp (signed a) (signed b)
order_by_first k a b h g p l e d =
    int_cmp_is (signed a) (signed b) o (by_cases o (int_ranked (signed (take k a)) (signed (take k b)) o refl))
  where
    o : Ordering
    o = int_cmp (signed (take k a)) (signed (take k b))

    by_cases : (o : Ordering) → MatchOrdering o (signed (take k a) <ℤ signed (take k b))
        (signed (take k a) ≡ signed (take k b)) (signed (take k b) <ℤ signed (take k a)) →
        MatchOrdering o (signed a <ℤ signed b) (signed a ≡ signed b) (signed b <ℤ signed a)
    by_cases Less m = below_by_first k a b h g p l e m
    by_cases Equal m = absurd (d m)
    by_cases Greater m = below_by_first k b a g h p (omega arith) (sym e) m

-- ---- words in the order of numbers

-- a word with its sign bit turned is the number, moved up by half of the words
biased : (n : ℕ) → n < 2 ^ 64 → pos ((n + 2 ^ 63) % 2 ^ 64) ≡ cast_signed w64 n +ℤ pos (2 ^ 63)
biased n h = ⊎_elim low high (cases_lt n (2 ^ 63))
  where
    low : n < 2 ^ 63 → pos ((n + 2 ^ 63) % 2 ^ 64) ≡ cast_signed w64 n +ℤ pos (2 ^ 63)
    low l =
        let e : cast_signed w64 n ≡ pos n = ap (λ t. sel t (pos n) (negsuc (2 ^ 64 - suc n))) (lt-ltb n (2 ^ 63) l) in
        omega (arith, ints, e, div-add-mod' (n + 2 ^ 63) (2 ^ 64), mod_below (n + 2 ^ 63) (2 ^ 64) (omega arith))

    high : 2 ^ 63 ≤ n → pos ((n + 2 ^ 63) % 2 ^ 64) ≡ cast_signed w64 n +ℤ pos (2 ^ 63)
    high l =
        let e : cast_signed w64 n ≡ negsuc (2 ^ 64 - suc n) =
        ap (λ t. sel t (pos n) (negsuc (2 ^ 64 - suc n))) (le-ltb n (2 ^ 63) l) in
        omega (arith, ints, e, div-add-mod' (n + 2 ^ 63) (2 ^ 64), mod_below (n + 2 ^ 63) (2 ^ 64) (omega arith))

-- two words with one signed value are one
pub same_word : (m n : ℕ) → m < 2 ^ 64 → n < 2 ^ 64 → cast_signed w64 m ≡ cast_signed w64 n → m ≡ n
same_word m n h g e = sym (of_z-to_z w64 m h) ∙ (ap (cast_unsigned w64) e ∙ of_z-to_z w64 n g)

pub biased_order : (m n : ℕ) → m < 2 ^ 64 → n < 2 ^ 64
    → nat_cmp ((m + 2 ^ 63) % 2 ^ 64) ((n + 2 ^ 63) % 2 ^ 64) ≡ int_cmp (cast_signed w64 m) (cast_signed w64 n)
biased_order m n h g =
    int_cmp_is (cast_signed w64 m) (cast_signed w64 n) (nat_cmp x y) (by_cases (nat_cmp x y) (ranked x y (nat_cmp x y) refl))
  where
    x : ℕ
    x = (m + 2 ^ 63) % 2 ^ 64

    y : ℕ
    y = (n + 2 ^ 63) % 2 ^ 64

    by_cases : (o : Ordering) → MatchOrdering o (x < y) (x ≡ y) (y < x)
        → MatchOrdering o (cast_signed w64 m <ℤ cast_signed w64 n) (cast_signed w64 m ≡ cast_signed w64 n)
        (cast_signed w64 n <ℤ cast_signed w64 m)
    by_cases Less l = omega (arith, ints, l, biased m h, biased n g)
    by_cases Equal l = omega (arith, ints, l, biased m h, biased n g)
    by_cases Greater l = omega (arith, ints, l, biased m h, biased n g)

-- what is added to one number orders the sums
moved_order : (z : ℤ) (x y : ℕ) → nat_cmp x y ≡ int_cmp (z +ℤ pos x) (z +ℤ pos y)
moved_order z x y = int_cmp_is (z +ℤ pos x) (z +ℤ pos y) (nat_cmp x y) (by_cases (nat_cmp x y) (ranked x y (nat_cmp x y) refl))
  where
    by_cases : (o : Ordering) → MatchOrdering o (x < y) (x ≡ y) (y < x)
        → MatchOrdering o ((z +ℤ pos x) <ℤ (z +ℤ pos y)) ((z +ℤ pos x) ≡ (z +ℤ pos y))
        ((z +ℤ pos y) <ℤ (z +ℤ pos x))
    by_cases Less l = omega (arith, ints, l)
    by_cases Equal l = omega (arith, ints, l)
    by_cases Greater l = omega (arith, ints, l)

-- two numbers of sixteen octets with the same first eight are ordered by the last eight
pub order_by_last : (a b : List ℕ) → IsOctets a → IsOctets b → length a ≡ 16 → length b ≡ 16
    → signed (take 8 a) ≡ signed (take 8 b)
    → nat_cmp (unsigned (drop 8 a)) (unsigned (drop 8 b)) ≡ int_cmp (signed a) (signed b)
order_by_last a b h g l k e =
    let x = parts a h l in
    let y = parts b g k in
    let e' : signed a ≡ signed (take 8 b) *ℤ pos (2 ^ 64) +ℤ pos (unsigned (drop 8 a)) =
    x ∙ ap (λ (z : ℤ). z *ℤ pos (2 ^ 64) +ℤ pos (unsigned (drop 8 a))) e in
    moved_order (signed (take 8 b) *ℤ pos (2 ^ 64)) (unsigned (drop 8 a)) (unsigned (drop 8 b))
    ∙ (ap (λ z. int_cmp z (signed (take 8 b) *ℤ pos (2 ^ 64) +ℤ pos (unsigned (drop 8 b)))) (sym e')
    ∙ ap (int_cmp (signed a)) (sym y))
  where
    parts : (o : List ℕ) → IsOctets o → length o ≡ 16
        → signed o ≡ signed (take 8 o) *ℤ pos (2 ^ 64) +ℤ pos (unsigned (drop 8 o))
    parts o h l =
        ap signed (sym (take-append-drop 8 o))
        ∙ signed-eight_more (take 8 o) (drop 8 o) (omega (arith, length-take 8 o)) (octets-take 8 o h) (octets-drop 8 o h)
        (length-drop 8 o ∙ omega arith)

-- ---- a number of two words

pub two_halves : (h l : ℕ) → l < 2 ^ 64 → ((h * 2 ^ 64 + l) / 2 ^ 64 ≡ h) × ((h * 2 ^ 64 + l) % 2 ^ 64 ≡ l)
two_halves h l b =
    let d = div-add-mod' (h * 2 ^ 64 + l) (2 ^ 64) in
    let m = mod_below (h * 2 ^ 64 + l) (2 ^ 64) (omega arith) in
    same_from_place ((h * 2 ^ 64 + l) / 2 ^ 64) ((h * 2 ^ 64 + l) % 2 ^ 64) h l (2 ^ 64) m b d

-- sixteen octets encode the number of their two words
pub sixteen_by_halves : (a : List ℕ) → IsOctets a → length a ≡ 16
    → cast_signed w128 (unsigned (take 8 a) * 2 ^ 64 + unsigned (drop 8 a)) ≡ signed a
sixteen_by_halves [] h l = absurd (omega arith)
sixteen_by_halves (b ∷ bs) h l =
    let n : length bs ≡ 15 = omega arith in
    let w : length (drop 8 (b ∷ bs)) ≡ 8 = length-drop 8 (b ∷ bs) ∙ omega arith in
    let u : unsigned (b ∷ bs) ≡ unsigned (take 8 (b ∷ bs)) * 2 ^ 64 + unsigned (drop 8 (b ∷ bs)) =
    ap unsigned (sym (take-append-drop 8 (b ∷ bs))) ∙ unsigned-eight_more (take 8 (b ∷ bs)) (drop 8 (b ∷ bs)) w in
    let s : signed (b ∷ bs) ≡ sel (ltb (unsigned (b ∷ bs)) (128 * 256 ^ 15)) (pos (unsigned (b ∷ bs)))
    (negsuc (256 ^ 16 - suc (unsigned (b ∷ bs)))) =
    signed_as_bits b bs h
    ∙ ap (λ (k : ℕ). sel (ltb (unsigned (b ∷ bs)) (128 * 256 ^ k)) (pos (unsigned (b ∷ bs)))
    (negsuc (256 ^ suc k - suc (unsigned (b ∷ bs))))) n in
    ap (cast_signed w128) (sym u) ∙ sym s

-- one or two octets fit a word
pub two_fit : (o : List ℕ) → IsOctets o → 0 < length o → length o ≤ 2 → SFits w64 (signed o)
two_fit [] h some few = absurd (omega arith)
two_fit (b ∷ bs) h some few =
    let r = signed_range b bs h in
    let p : 256 ^ length bs ≤ 256 ^ 1 = pow-le-pow_right (omega arith) {i = length bs} {j = 1} (omega arith) in
    fits (signed (b ∷ bs)) (omega arith) (omega arith)
  where
    fits : (z : ℤ) → up z < 2 ^ 63 → down z ≤ 2 ^ 63 → SFits w64 z
    fits (pos n) h k = record { sfits = h }
    fits (negsuc n) h k = record { sfits = k }
