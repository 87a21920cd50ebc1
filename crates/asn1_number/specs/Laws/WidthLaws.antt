-- Lemmas on octets and the numbers of the machine's types.
use Rattle.std.proofs.Common.{◌≡◌, ℕ, zero, suc, ◌+◌, ◌-◌, ◌*◌, ◌/◌, ◌%◌, ◌^◌, ◌<◌, ◌≤◌, ℤ, pos, negsuc, ◌+ℤ◌, ◌*ℤ◌, List, [], ◌∷◌, ◌++◌, length, get_or, take, refl, sym, ap, subst, ◌∙◌, arith, ⊎_elim, true, false, length-append, length-take, to_z-of_z}
use Rattle.std.proofs.Math.Nat.{pow-suc, mul-le-mul_right, pow-le-pow_right, div-add-mod', div-div-eq-div-mul, div-one, div-eq_of_lt}
use Rattle.std.proofs.lemmas.List.{take_more}
use Rattle.std.proofs.lemmas.Nat.{mul-add-lt, mod_below}
use Rattle.std.proofs.lemmas.Bool.{cases_lt, lt-ltb, le-ltb}
use Rattle.std.specs.Int.{byte_at, bytes_high_first, w8, w128}
use mir.Val.{SFits, of_z, to_z, sel}
use lib.Dec.{ltb}
use borrow.Author.Differences.{up, down, sum_is_lem, product_is, same_in}
use Rattle.asn1_number.specs.Octets.{IsOctets, unsigned, signed}
use Rattle.asn1_number.specs.Laws.OctetLaws.{unsigned-cons, unsigned_nil, unsigned_below, low_parts, high_parts, signed_low, signed_range, power_step, octets_from_places}

-- ---- one octet more at the end

pub unsigned-push : (o : List ℕ) (d : ℕ) → unsigned (o ++ d ∷ []) ≡ unsigned o * 256 + d
unsigned-push [] d = unsigned-cons d [] ∙ omega (arith, unsigned_nil)
unsigned-push (b ∷ bs) d =
    let l : length (bs ++ d ∷ []) ≡ suc (length bs) = length-append bs (d ∷ []) ∙ omega arith in
    let p : 256 ^ length (bs ++ d ∷ []) ≡ 256 * 256 ^ length bs = ap (λ (n : ℕ). 256 ^ n) l ∙ power_step (length bs) in
    let q : b * 256 ^ length (bs ++ d ∷ []) ≡ b * (256 * 256 ^ length bs) = ap (λ x. b * x) p in
    unsigned-cons b (bs ++ d ∷ []) ∙ omega (arith, q, unsigned-push bs d, unsigned-cons b bs)

pub octets-push : (o : List ℕ) (d : ℕ) → IsOctets o → d < 256 → IsOctets (o ++ d ∷ [])
octets-push [] d h l = (l, tt)
octets-push (b ∷ bs) d h l = (h.0, octets-push bs d h.1 l)

pub signed-push : (b : ℕ) (bs : List ℕ) (d : ℕ) → IsOctets (b ∷ bs) → d < 256
    → signed ((b ∷ bs) ++ d ∷ []) ≡ signed (b ∷ bs) *ℤ pos 256 +ℤ pos d
signed-push b bs d h l = ⊎_elim low high (cases_lt b 128)
  where
    u : unsigned ((b ∷ bs) ++ d ∷ []) ≡ unsigned (b ∷ bs) * 256 + d
    u = unsigned-push (b ∷ bs) d

    s : up (signed (b ∷ bs) *ℤ pos 256 +ℤ pos d) + down (signed (b ∷ bs) *ℤ pos 256) + 0 ≡ down
        (signed (b ∷ bs) *ℤ pos 256 +ℤ pos d) + up (signed (b ∷ bs) *ℤ pos 256) + d
    s = sum_is_lem (signed (b ∷ bs) *ℤ pos 256) (pos d)

    m : (up (signed (b ∷ bs) *ℤ pos 256) ≡ up (signed (b ∷ bs)) * 256 + down (signed (b ∷ bs)) * 0)
        × (down (signed (b ∷ bs) *ℤ pos 256) ≡ up (signed (b ∷ bs)) * 0 + down (signed (b ∷ bs)) * 256)
    m = product_is (signed (b ∷ bs)) (pos 256)

    low : b < 128 → signed ((b ∷ bs) ++ d ∷ []) ≡ signed (b ∷ bs) *ℤ pos 256 +ℤ pos d
    low i = same_in _ _ (omega (arith, low_parts b bs i, low_parts b (bs ++ d ∷ []) i, u, s, m))

    high : 128 ≤ b → signed ((b ∷ bs) ++ d ∷ []) ≡ signed (b ∷ bs) *ℤ pos 256 +ℤ pos d
    high i =
        let n : 256 ^ length ((b ∷ bs) ++ d ∷ []) ≡ 256 * 256 ^ length (b ∷ bs) =
        ap (λ (n : ℕ). 256 ^ n) (let e : length ((b ∷ bs) ++ d ∷ []) ≡ suc (length (b ∷ bs)) =
        length-append (b ∷ bs) (d ∷ []) ∙ omega arith in e) ∙ power_step (length (b ∷ bs)) in
        same_in _ _
        (omega (arith, high_parts b bs h i, high_parts b (bs ++ d ∷ []) (octets-push (b ∷ bs) d h l) i, u, s, m, n))

-- ---- the bytes of a number

pub byte_at_is : (k n : ℕ) → byte_at k n ≡ n / 256 ^ k % 256
byte_at_is zero n = ap (λ x. x % 256) (sym (div-one n))
byte_at_is (suc k) n = refl

pub length-bytes : (k n : ℕ) → length (bytes_high_first k n) ≡ k
length-bytes zero n = refl
length-bytes (suc k) n = ap suc (length-bytes k n)

pub octets_of_bytes : (k n : ℕ) → IsOctets (bytes_high_first k n)
octets_of_bytes zero n = tt
octets_of_bytes (suc k) n =
    (subst (λ x. x < 256) (sym (byte_at_is k n)) (mod_below (n / 256 ^ k) 256 (omega arith)), octets_of_bytes k n)

pub unsigned-bytes_and_rest : (k n : ℕ) → unsigned (bytes_high_first k n) + n / 256 ^ k * 256 ^ k ≡ n
unsigned-bytes_and_rest zero n = omega (arith, div-one n, unsigned_nil)
unsigned-bytes_and_rest (suc k) n =
    let ih = unsigned-bytes_and_rest k n in
    let c = unsigned-cons (byte_at k n) (bytes_high_first k n) in
    let l : 256 ^ length (bytes_high_first k n) ≡ 256 ^ k = ap (λ (m : ℕ). 256 ^ m) (length-bytes k n) in
    let c' : unsigned (bytes_high_first (suc k) n) ≡ (n / 256 ^ k % 256) * 256 ^ k + unsigned (bytes_high_first k n) =
    c ∙ ap (λ x. x + unsigned (bytes_high_first k n))
    (ap (λ x. byte_at k n * x) l ∙ ap (λ x. x * 256 ^ k) (byte_at_is k n)) in
    let d : n / 256 ^ suc k ≡ n / 256 ^ k / 256 = ap (λ x. n / x) (pow-suc 256 k)
    ∙ sym (div-div-eq-div-mul n (256 ^ k) 256) in
    let q : n / 256 ^ k / 256 * 256 + n / 256 ^ k % 256 ≡ n / 256 ^ k = div-add-mod' (n / 256 ^ k) 256 in
    let r : n / 256 ^ suc k * 256 ^ suc k ≡ n / 256 ^ k / 256 * (256 * 256 ^ k) = ap (λ x. x * 256 ^ suc k) d
    ∙ ap (λ x. n / 256 ^ k / 256 * x) (power_step k) in
    let t : (n / 256 ^ k / 256 * 256 + n / 256 ^ k % 256) * 256 ^ k ≡ n / 256 ^ k * 256 ^ k = ap (λ x. x * 256 ^ k) q in
    omega arith

pub unsigned-bytes : (k n : ℕ) → n < 256 ^ k → unsigned (bytes_high_first k n) ≡ n
unsigned-bytes k n h =
    let e = unsigned-bytes_and_rest k n in
    let z : n / 256 ^ k * 256 ^ k ≡ 0 = ap (λ x. x * 256 ^ k) (div-eq_of_lt h) ∙ omega arith in
    omega arith

-- two's complement: the number that the bits mean
pub signed_as_bits : (b : ℕ) (bs : List ℕ) → IsOctets (b ∷ bs) →
    signed (b ∷ bs) ≡ sel (ltb (unsigned (b ∷ bs)) (128 * 256 ^ length bs)) (pos (unsigned (b ∷ bs)))
    (negsuc (256 ^ length (b ∷ bs) - suc (unsigned (b ∷ bs))))
signed_as_bits b bs h = ⊎_elim low high (cases_lt b 128)
  where
    u : unsigned (b ∷ bs) ≡ b * 256 ^ length bs + unsigned bs
    u = unsigned-cons b bs

    low : b < 128 → signed (b ∷ bs) ≡ sel (ltb (unsigned (b ∷ bs)) (128 * 256 ^ length bs)) (pos (unsigned (b ∷ bs)))
        (negsuc (256 ^ length (b ∷ bs) - suc (unsigned (b ∷ bs))))
    low i =
        let k = mul-add-lt b (256 ^ length bs) (unsigned bs) 128 i (unsigned_below bs h.1) in
        let t : ltb (unsigned (b ∷ bs)) (128 * 256 ^ length bs) ≡ true = lt-ltb _ _ (omega (arith, u)) in
        signed_low b bs i
        ∙ ap (λ x. sel x (pos (unsigned (b ∷ bs))) (negsuc (256 ^ length (b ∷ bs) - suc (unsigned (b ∷ bs)))))
        (sym t)

    high : 128 ≤ b → signed (b ∷ bs) ≡ sel (ltb (unsigned (b ∷ bs)) (128 * 256 ^ length bs)) (pos (unsigned (b ∷ bs)))
        (negsuc (256 ^ length (b ∷ bs) - suc (unsigned (b ∷ bs))))
    high i =
        let k : 128 * 256 ^ length bs ≤ b * 256 ^ length bs = mul-le-mul_right (256 ^ length bs) i in
        let t : ltb (unsigned (b ∷ bs)) (128 * 256 ^ length bs) ≡ false = le-ltb _ _ (omega (arith, u)) in
        let p = high_parts b bs h i in
        let w = unsigned_below (b ∷ bs) h in
        let e : signed (b ∷ bs) ≡ negsuc (256 ^ length (b ∷ bs) - suc (unsigned (b ∷ bs))) =
        same_in _ _ (omega arith) in
        e ∙ ap (λ x. sel x (pos (unsigned (b ∷ bs))) (negsuc (256 ^ length (b ∷ bs) - suc (unsigned (b ∷ bs))))) (sym t)

pub signed-bytes : (k n : ℕ) → n < 256 ^ suc k
    → signed (bytes_high_first (suc k) n) ≡ sel (ltb n (128 * 256 ^ k)) (pos n) (negsuc (256 ^ suc k - suc n))
signed-bytes k n h =
    let u = unsigned-bytes (suc k) n h in
    let l = length-bytes k n in
    signed_as_bits (byte_at k n) (bytes_high_first k n) (octets_of_bytes (suc k) n)
    ∙
    (ap (λ x. sel (ltb x (128 * 256 ^ length (bytes_high_first k n))) (pos x)
    (negsuc (256 ^ suc (length (bytes_high_first k n)) - suc x))) u
    ∙ ap (λ m. sel (ltb n (128 * 256 ^ m)) (pos n) (negsuc (256 ^ suc m - suc n))) l)

pub fits_by_parts : (z : ℤ) → up z < 2 ^ 127 → down z ≤ 2 ^ 127 → SFits w128 z
fits_by_parts (pos n) h k = record { sfits = h }
fits_by_parts (negsuc n) h k = record { sfits = k }

-- up to sixteen octets fit `i128`
pub sixteen_fit : (o : List ℕ) → IsOctets o → 0 < length o → length o ≤ 16 → SFits w128 (signed o)
sixteen_fit [] h some few = absurd (omega arith)
sixteen_fit (b ∷ bs) h some few =
    let r = signed_range b bs h in
    let p : 256 ^ length bs ≤ 256 ^ 15 = pow-le-pow_right (omega arith) {i = length bs} {j = 15} (omega arith) in
    fits_by_parts (signed (b ∷ bs)) (omega arith) (omega arith)

-- and up to fifteen leave room for one more
pub fifteen_times_fit : (o : List ℕ) → IsOctets o → 0 < length o → length o ≤ 15 → SFits w128 (signed o *ℤ pos 256)
fifteen_times_fit [] h some few = absurd (omega arith)
fifteen_times_fit (b ∷ bs) h some few =
    let r = signed_range b bs h in
    let p : 256 ^ length bs ≤ 256 ^ 14 = pow-le-pow_right (omega arith) {i = length bs} {j = 14} (omega arith) in
    let m = product_is (signed (b ∷ bs)) (pos 256) in
    fits_by_parts (signed (b ∷ bs) *ℤ pos 256) (omega arith) (omega arith)

pub signed_first : (o : List ℕ) → IsOctets o → 0 < length o → signed (take 1 o) ≡ to_z w8 (get_or o 0 0)
signed_first [] h some = absurd (omega arith)
signed_first (b ∷ bs) h some =
    let u : unsigned (b ∷ []) ≡ b = unsigned-cons b [] ∙ omega (arith, unsigned_nil) in
    signed_as_bits b [] (h.0, tt) ∙ ap (λ x. sel (ltb x 128) (pos x) (negsuc (256 - suc x))) u

pub octets-take : (k : ℕ) (o : List ℕ) → IsOctets o → IsOctets (take k o)
octets-take zero o h = tt
octets-take (suc k) [] h = h
octets-take (suc k) (b ∷ bs) h = (h.0, octets-take k bs h.1)

pub octet_at : (o : List ℕ) (k : ℕ) → IsOctets o → get_or o k 0 < 256
octet_at [] k h = omega arith
octet_at (b ∷ bs) zero h = h.0
octet_at (b ∷ bs) (suc k) h = octet_at bs k h.1

pub signed_more : (o : List ℕ) (k : ℕ) → IsOctets o → 0 < k → k < length o
    → signed (take (k + 1) o) ≡ signed (take k o) *ℤ pos 256 +ℤ pos (get_or o k 0)
signed_more o zero h p l = absurd (omega arith)
signed_more [] (suc k) h p l = absurd (omega arith)
signed_more (b ∷ bs) (suc k) h p l =
    ap signed (take_more (b ∷ bs) (suc k) 0 l) ∙
    signed-push b (take k bs) (get_or (b ∷ bs) (suc k) 0) (octets-take (suc k) (b ∷ bs) h) (octet_at (b ∷ bs) (suc k) h)

-- the steps of a running value
pub first_value : (o : List ℕ) (x y : ℤ) → IsOctets o → 0 < length o → x ≡ to_z w8 (get_or o 0 0) → SFits w8 x
    → y ≡ to_z w8 (of_z w8 x) → SFits w128 y →
    to_z w128 (of_z w128 y) ≡ signed (take 1 o)
first_value o x y h some a f b g = to_z-of_z g ∙ (b ∙ (to_z-of_z f ∙ (a ∙ sym (signed_first o h some))))

pub room_for_more : (o : List ℕ) (k : ℕ) (v : ℤ) → IsOctets o → k + 1 < length o → length o ≤ 16
    → v ≡ signed (take (k + 1) o) → SFits w128 (v *ℤ pos 256)
room_for_more o k v h l few e =
    let t : length (take (k + 1) o) ≡ k + 1 = length-take (k + 1) o ∙ omega arith in
    subst (λ z. SFits w128 (z *ℤ pos 256)) (sym e)
    (fifteen_times_fit (take (k + 1) o) (octets-take (k + 1) o h) (omega arith) (omega arith))

pub more_value : (o : List ℕ) (k : ℕ) (v x : ℤ) (d : ℕ) → IsOctets o → k + 1 < length o → length o ≤ 16
    → v ≡ signed (take (k + 1) o) → x ≡ pos d → d ≡ get_or o (k + 1) 0 →
    to_z w128 (of_z w128 (to_z w128 (of_z w128 (v *ℤ pos 256)) +ℤ to_z w128 (of_z w128 x))) ≡ signed
    (take (k + 1 + 1) o)
more_value o k v x d h l few e a b =
    let f : SFits w128 (v *ℤ pos 256) = room_for_more o k v h l few e in
    let x' : x ≡ pos (get_or o (k + 1) 0) = a ∙ ap pos b in
    let g : SFits w128 x =
    subst (λ z. SFits w128 z) (sym x')
    (fits_by_parts (pos (get_or o (k + 1) 0)) (omega (arith, octet_at o (k + 1) h)) (omega arith)) in
    let s : v *ℤ pos 256 +ℤ x ≡ signed (take (k + 1 + 1) o) =
    ap (λ z. z *ℤ pos 256 +ℤ x) e ∙ (ap (λ z. signed (take (k + 1) o) *ℤ pos 256 +ℤ z) x'
    ∙ sym (signed_more o (k + 1) h (omega arith) l)) in
    let t2 : length (take (k + 1 + 1) o) ≡ k + 1 + 1 = length-take (k + 1 + 1) o ∙ omega arith in
    let fs : SFits w128 (v *ℤ pos 256 +ℤ x) =
    subst (λ z. SFits w128 z) (sym s)
    (sixteen_fit (take (k + 1 + 1) o) (octets-take (k + 1 + 1) o h) (omega arith) (omega arith)) in
    ap (λ z. to_z w128 (of_z w128 (z +ℤ to_z w128 (of_z w128 x)))) (to_z-of_z f) ∙
    (ap (λ z. to_z w128 (of_z w128 (v *ℤ pos 256 +ℤ z))) (to_z-of_z g) ∙ (to_z-of_z fs ∙ s))

-- ---- an unsigned running value

pub unsigned_more : (o : List ℕ) (k : ℕ) → k < length o
    → unsigned (take (k + 1) o) ≡ unsigned (take k o) * 256 + get_or o k 0
unsigned_more o k l = ap unsigned (take_more o k 0 l) ∙ unsigned-push (take k o) (get_or o k 0)

pub unsigned_room : (o : List ℕ) (k : ℕ) → ((i : ℕ) → get_or o i 0 < 256) → k < length o → length o ≤ 16
    → unsigned (take k o) * 256 + get_or o k 0 < 2 ^ 128
unsigned_room o k h l few =
    let t : length (take k o) ≡ k = length-take k o ∙ omega arith in
    let b = unsigned_below (take k o) (octets-take k o (octets_from_places o h)) in
    let p : 256 ^ length (take k o) ≤ 256 ^ 15 =
    pow-le-pow_right (omega arith) {i = length (take k o)} {j = 15} (omega arith) in
    omega (arith, h k)
