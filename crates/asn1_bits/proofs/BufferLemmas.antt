-- The octets of a buffer, through its changes.
use Rattle.std.proofs.Common.{◌≡◌, ℕ, zero, suc, ◌+◌, ◌-◌, ◌*◌, ◌/◌, ◌%◌, ◌<◌, ◌≤◌, Bool, true, false, List, [], ◌∷◌, ◌++◌, length, get_or, set, take, drop, replicate, refl, sym, ap, ◌∙◌, append_assoc, arith}
use Rattle.std.proofs.Math.Seq.{take-add}
use Rattle.std.proofs.lemmas.List.{append-nil, length-append, length-take, length-set, length-replicate, take_all, drop_all, drop_at, take_at, take-take, take-append-le, take-replicate, drop_more, set_at, set-append_left, replicate_more, replicate-append-replicate}
use Rattle.asn1_bits.specs.Bits.{digits, bits, octets_for, ored, padded, IsZeroFrom}
use Rattle.asn1_bits.specs.BitBuffer.{bits_shown, IsFilled}
use Rattle.asn1_bits.specs.Laws.DigitLaws.{length-bits, bits-append, bits-take}
use Rattle.asn1_bits.proofs.OredLemmas.{length-ored, ored-append_left, ored-onto}
use Rattle.asn1_bits.proofs.ZeroLemmas.{zeros_behind, zero_from}

-- the digits of 0 are zeros
pub digits-zero : (width : ℕ) → digits 0 width ≡ replicate width false
unfolding digits
digits-zero zero = refl
digits-zero (suc width) =
    ap (λ (l : List Bool). l ++ false ∷ []) (digits-zero width) ∙ replicate_more width false
    ∙ (let e : width + 1 ≡ suc width = omega arith in ap (λ (n : ℕ). replicate n false) e)

-- and so are the bits of octets that are 0
pub bits-zeros : (k : ℕ) → bits (replicate k 0) ≡ replicate (8 * k) false
unfolding bits
bits-zeros zero = refl
bits-zeros (suc k) =
    ap (λ (l : List Bool). l ++ bits (replicate k 0)) (digits-zero 8)
    ∙ ap (λ (l : List Bool). replicate 8 false ++ l) (bits-zeros k)
    ∙ replicate-append-replicate 8 (8 * k) false
    ∙ (let e : 8 + 8 * k ≡ 8 * suc k = omega arith in ap (λ (n : ℕ). replicate n false) e)

-- as many bits are shown as the buffer counts
pub length-bits_shown : (octets : List ℕ) (len : ℕ) → IsFilled octets len → length (bits_shown octets len) ≡ len
unfolding bits_shown
length-bits_shown octets len f = length-take len (bits octets) ∙ omega (arith, length-bits octets, f.count)

-- they lie in the octets
pub len_fits : (octets : List ℕ) (len : ℕ) → IsFilled octets len → len ≤ 8 * length octets
len_fits octets len f = omega (arith, f.count)

-- octets whose bits are a list and then zeros
pub filled_by : (octets : List ℕ) (len : ℕ) (list : List Bool) (z : ℕ) → bits octets ≡ list ++ replicate z false
    → length list ≡ len → octets_for len ≤ length octets → length octets ≤ len / 8 + 39
    → IsFilled octets len × (bits_shown octets len ≡ list)
unfolding bits_shown
filled_by octets len list z e l n m =
    let front : take len (bits octets) ≡ list = ap (take len) e ∙ take_at list (replicate z false) len l in
    let total : length (bits octets) ≡ len + z = ap (λ (l : List Bool). length l) e
    ∙ omega (arith, length-append list (replicate z false), length-replicate z false) in
    let rest : z ≡ length (bits octets) - len = omega arith in
    let zeros : IsZeroFrom len (bits octets) =
    zero_from len (bits octets) (omega arith)
    (e ∙ ap (λ (k : ℕ). list ++ replicate k false) rest
    ∙ ap (λ (l : List Bool). l ++ replicate (length (bits octets) - len) false) (sym front)) in
    (record { count = n; few = m; rest = zeros }, front)

-- the octets' bits are those that they show, and zeros
pub spelled : (octets : List ℕ) (len : ℕ) → IsFilled octets len
    → bits octets ≡ bits_shown octets len ++ replicate (8 * length octets - len) false
unfolding bits_shown
spelled octets len f =
    let n : length (bits octets) - len ≡ 8 * length octets - len = omega (arith, length-bits octets) in
    zeros_behind len (bits octets) f.rest ∙ ap (λ (k : ℕ). take len (bits octets) ++ replicate k false) n

-- no octets are filled by no bits
pub filled-none : IsFilled [] 0 × (bits_shown [] 0 ≡ [])
unfolding bits
filled-none = filled_by [] 0 [] 0 refl refl (omega arith) (omega arith)

-- a list and the first of the zeros after it
pub take-zeros : (list : List Bool) (n k z : ℕ) → length list ≡ n → k ≤ z
    → take (n + k) (list ++ replicate z false) ≡ list ++ replicate k false
take-zeros list n k z e h =
    let zeros = replicate z false in
    take-add n k (list ++ zeros)
    ∙ ap (λ (l : List Bool). l ++ take k (drop n (list ++ zeros))) (take_at list zeros n e)
    ∙ ap (λ (l : List Bool). list ++ take k l) (drop_at list zeros n e)
    ∙ ap (λ (l : List Bool). list ++ l) (take-replicate k z false h)

-- the octets that the list fills are the bits that are shown, and zeros to the octet's end
pub padded-bits_shown : (octets : List ℕ) (len : ℕ) → IsFilled octets len
    → bits (take (octets_for len) octets) ≡ padded (bits_shown octets len)
padded-bits_shown octets len f =
    let shown = bits_shown octets len in
    let n = length-bits_shown octets len f in
    let z = 8 * octets_for len - len in
    let sum : 8 * octets_for len ≡ len + z = omega arith in
    bits-take (octets_for len) octets
    ∙ ap (λ (l : List Bool). take (8 * octets_for len) l) (spelled octets len f)
    ∙ ap (λ (k : ℕ). take k (shown ++ replicate (8 * length octets - len) false)) sum
    ∙ take-zeros shown len z (8 * length octets - len) n (omega (arith, f.count))
    ∙ ap (λ (k : ℕ). shown ++ replicate (8 * octets_for k - k) false) (sym n)

-- they are as many as the list fills
pub length-filled : (octets : List ℕ) (len : ℕ) → IsFilled octets len
    → length (take (octets_for len) octets) ≡ octets_for (length (bits_shown octets len))
length-filled octets len f =
    length-take (octets_for len) octets
    ∙ (let n : octets_for len ≡ octets_for (length (bits_shown octets len)) =
    ap octets_for (sym (length-bits_shown octets len f)) in omega (arith, f.count, n))

-- and they show the same
pub filled-front : (octets : List ℕ) (len : ℕ) → IsFilled octets len
    → IsFilled (take (octets_for len) octets) len
    × (bits_shown (take (octets_for len) octets) len ≡ bits_shown octets len)
filled-front octets len f =
    let n = length-bits_shown octets len f in
    let size = ap (λ (k : ℕ). 8 * octets_for k - k) n in
    filled_by (take (octets_for len) octets) len (bits_shown octets len) (8 * octets_for len - len)
    (padded-bits_shown octets len f ∙ ap (λ (k : ℕ). bits_shown octets len ++ replicate k false) size)
    n
    (omega (arith, length-take (octets_for len) octets, f.count))
    (omega (arith, length-take (octets_for len) octets, f.count))

-- octets of zeros after them show that many zeros more
pub filled-grow : (octets : List ℕ) (len d k : ℕ) → IsFilled octets len → octets_for (len + d) ≤ length octets + k
    → length octets + k ≤ (len + d) / 8 + 39
    → IsFilled (octets ++ replicate k 0) (len + d)
    × (bits_shown (octets ++ replicate k 0) (len + d) ≡ bits_shown octets len ++ replicate d false)
filled-grow octets len d k f e m =
    let z = 8 * length octets - len in
    let z' = 8 * (length octets + k) - (len + d) in
    let shape : bits (octets ++ replicate k 0) ≡ (bits_shown octets len ++ replicate d false) ++ replicate z' false =
    bits-append octets (replicate k 0)
    ∙ ap (λ (l : List Bool). l ++ bits (replicate k 0)) (spelled octets len f)
    ∙ ap (λ (l : List Bool). (bits_shown octets len ++ replicate z false) ++ l) (bits-zeros k)
    ∙ append_assoc (bits_shown octets len) (replicate z false) (replicate (8 * k) false)
    ∙ ap (λ (l : List Bool). bits_shown octets len ++ l)
    (replicate-append-replicate z (8 * k) false
    ∙ (let e : z + 8 * k ≡ d + z' = omega (arith, f.count) in ap (λ (n : ℕ). replicate n false) e)
    ∙ sym (replicate-append-replicate d z' false))
    ∙ sym (append_assoc (bits_shown octets len) (replicate d false) (replicate z' false)) in
    filled_by (octets ++ replicate k 0) (len + d) (bits_shown octets len ++ replicate d false) z' shape
    (omega (
      arith,
      length-append (bits_shown octets len) (replicate d false),
      length-bits_shown octets len f,
      length-replicate d false,
    ))
    (omega (arith, length-append octets (replicate k 0), length-replicate {A = ℕ} k 0))
    (omega (arith, length-append octets (replicate k 0), length-replicate {A = ℕ} k 0))

-- a bit that is set in the octets is set among those that are shown
pub filled-set : (octets after : List ℕ) (len i : ℕ) (bit : Bool) → IsFilled octets len
    → bits after ≡ set (bits octets) i bit → length after ≡ length octets → i < len
    → IsFilled after len × (bits_shown after len ≡ set (bits_shown octets len) i bit)
filled-set octets after len i bit f e n h =
    let z = 8 * length octets - len in
    filled_by after len (set (bits_shown octets len) i bit) z
    (e ∙ ap (λ (l : List Bool). set l i bit) (spelled octets len f)
    ∙ set-append_left (bits_shown octets len) (replicate z false) i bit
    (omega (arith, length-bits_shown octets len f)))
    (length-set (bits_shown octets len) i bit ∙ length-bits_shown octets len f)
    (omega (arith, n, f.count)) (omega (arith, n, f.few))

-- bits that are ORed into the octets are ORed into those that are shown
pub filled-ored : (octets after : List ℕ) (len place : ℕ) (src : List Bool) → IsFilled octets len
    → bits after ≡ ored (bits octets) place src → length after ≡ length octets
    → place + length src ≤ len
    → IsFilled after len × (bits_shown after len ≡ ored (bits_shown octets len) place src)
filled-ored octets after len place src f e n h =
    let z = 8 * length octets - len in
    filled_by after len (ored (bits_shown octets len) place src) z
    (e ∙ ap (λ (l : List Bool). ored l place src) (spelled octets len f)
    ∙ ored-append_left (bits_shown octets len) (replicate z false) place src
    (omega (arith, length-bits_shown octets len f)))
    (length-ored (bits_shown octets len) place src ∙ length-bits_shown octets len f)
    (omega (arith, n, f.count)) (omega (arith, n, f.few))

-- octets that were filled up with zeros to hold d bits more
pub filled-grow_to : (octets after : List ℕ) (len d count : ℕ) → IsFilled octets len
    → count ≡ octets_for (len + d)
    → after ≡ octets ++ replicate (count - length octets) 0
    → IsFilled after (len + d) × (bits_shown after (len + d) ≡ bits_shown octets len ++ replicate d false)
filled-grow_to octets after len d count f n e =
    rw e
    (filled-grow octets len d (count - length octets) f (omega (arith, n)) (omega (arith, n, f.few)))

-- octets of zeros after them show the same
pub filled-ready : (octets after : List ℕ) (len n count : ℕ) → IsFilled octets len → n ≡ length octets → n ≤ count
    → count ≤ len / 8 + 39
    → after ≡ take count octets ++ replicate (count - n) 0
    → IsFilled after len × (bits_shown after len ≡ bits_shown octets len)
filled-ready octets after len n count f size h m e =
    let k = count - n in
    let g = filled-grow octets len 0 k f (omega (arith, f.count)) (omega (arith, size, h, m)) in
    let none : len + 0 ≡ len = omega arith in
    let same = rw none at g in
    let all : after ≡ octets ++ replicate k 0 =
    e ∙ ap (λ (l : List ℕ). l ++ replicate k 0) (take_all count octets (omega (arith, size, h))) in
    rw all (same.0, same.1 ∙ append-nil (bits_shown octets len))

-- one zero more becomes a one
pub set-zeros : (list : List Bool) (place i n : ℕ) → length list ≡ place → place ≤ i → i < n
    → set ((list ++ replicate (i - place) true) ++ replicate (n - i) false) i
    true ≡ (list ++ replicate ((i + 1) - place) true) ++ replicate (n - (i + 1)) false
set-zeros list place i n e p h =
    let ones = replicate (i - place) true in
    let more : n - i ≡ suc (n - (i + 1)) = omega arith in
    let here : length (list ++ ones) ≡ i = omega (arith, length-append list ones, length-replicate (i - place) true) in
    ap (λ (k : ℕ). set ((list ++ ones) ++ replicate k false) i true) more
    ∙ set_at (list ++ ones) false (replicate (n - (i + 1)) false) true i here
    ∙ sym (append_assoc (list ++ ones) (true ∷ []) (replicate (n - (i + 1)) false))
    ∙ ap (λ (l : List Bool). l ++ replicate (n - (i + 1)) false)
    (append_assoc list ones (true ∷ [])
    ∙ ap (λ (l : List Bool). list ++ l)
    (replicate_more (i - place) true
    ∙ (let k : (i - place) + 1 ≡ (i + 1) - place = omega arith in ap (λ (m : ℕ). replicate m true) k)))

-- one bit more is cleared
pub cleared-more : (list : List Bool) (from k : ℕ) → from + k < length list
    → set ((take from list ++ replicate k false) ++ drop (from + k) list) (from + k)
    false ≡ (take from list ++ replicate (k + 1) false) ++ drop (from + (k + 1)) list
cleared-more list from k lt =
    let front = take from list in
    let zeros = replicate k false in
    let i = from + k in
    let here : length (front ++ zeros) ≡ i =
    omega (arith, length-append front zeros, length-replicate k false, length-take from list) in
    let next : i + 1 ≡ from + (k + 1) = omega arith in
    ap (λ (l : List Bool). set ((front ++ zeros) ++ l) i false) (drop_more list i false lt)
    ∙ set_at (front ++ zeros) (get_or list i false) (drop (i + 1) list) false i here
    ∙ ap (λ (n : ℕ). (front ++ zeros) ++ false ∷ drop n list) next
    ∙ sym (append_assoc (front ++ zeros) (false ∷ []) (drop (from + (k + 1)) list))
    ∙ ap (λ (l : List Bool). l ++ drop (from + (k + 1)) list)
    (append_assoc front zeros (false ∷ []) ∙ ap (λ (l : List Bool). front ++ l) (replicate_more k false))

-- octets that were cut, and cleared after the length
pub filled-cut : (octets cut after : List ℕ) (old len : ℕ) → IsFilled octets old → len ≤ old
    → cut ≡ take (octets_for len) octets
    → bits after ≡ take len (bits cut) ++ replicate (8 * length cut - len) false → length after ≡ length cut
    → IsFilled after len × (bits_shown after len ≡ take len (bits_shown octets old))
filled-cut octets cut after old len f h c e n =
    let count : length cut ≡ octets_for len = ap (λ (l : List ℕ). length l) c
    ∙ omega (arith, length-take (octets_for len) octets, f.count) in
    let front : take len (bits cut) ≡ take len (bits_shown octets old) =
    ap (λ (l : List ℕ). take len (bits l)) c
    ∙ ap (take len) (bits-take (octets_for len) octets)
    ∙ take-take len (8 * octets_for len) (bits octets) (omega arith)
    ∙ ap (take len) (spelled octets old f)
    ∙ take-append-le len (bits_shown octets old) (replicate (8 * length octets - old) false)
    (omega (arith, length-bits_shown octets old f)) in
    filled_by after len (take len (bits_shown octets old)) (8 * length cut - len)
    (e ∙ ap (λ (l : List Bool). l ++ replicate (8 * length cut - len) false) front)
    (omega (arith, length-take len (bits_shown octets old), length-bits_shown octets old f))
    (omega (arith, n, count)) (omega (arith, n, count))

-- octets that were lengthened with zeros, into which a list was ORed
pub bits-lengthened : (octets grown front room dst : List ℕ) (list : List Bool) (n needed count : ℕ)
    → grown ≡ take needed octets ++ replicate (needed - n) 0 → n ≡ length octets → needed ≡ n + count
    → front ≡ take n grown → room ≡ drop n grown → bits dst ≡ ored (bits room) 0 list → length list ≡ 8 * count
    → bits (front ++ dst) ≡ bits octets ++ list
bits-lengthened octets grown front room dst list n needed count g l e f r d len =
    let spare : needed - n ≡ count = omega arith in
    let zeros = replicate {A = ℕ} count 0 in
    let all : grown ≡ octets ++ zeros =
    g ∙ ap (λ (k : List ℕ). k ++ replicate (needed - n) 0) (take_all needed octets (omega arith))
    ∙ ap (λ (k : ℕ). octets ++ replicate k 0) spare in
    let fresh : bits room ≡ replicate (8 * count) false =
    ap bits (r ∙ ap (drop n) all ∙ drop_at octets zeros n (sym l)) ∙ bits-zeros count in
    ap bits (ap (λ (k : List ℕ). k ++ dst) (f ∙ ap (take n) all ∙ take_at octets zeros n (sym l)))
    ∙ bits-append octets dst
    ∙ ap (λ (m : List Bool). bits octets ++ m)
    (ored-onto [] (bits dst) list 0 (8 * count) (d ∙ ap (λ (m : List Bool). ored m 0 list) fresh) refl len)

-- zeros at the end of what a buffer shows are zeros of its octets
pub zeros-shown : (octets : List ℕ) (len place : ℕ) (list : List Bool) → IsFilled octets len
    → bits_shown octets len ≡ list → IsZeroFrom place list
    → IsZeroFrom place (bits octets)
zeros-shown octets len place list f e z =
    let rest = 8 * length octets - len in
    let front = take place list in
    let shape : bits octets ≡ list ++ replicate rest false = spelled octets len f
    ∙ ap (λ (l : List Bool). l ++ replicate rest false) e in
    let total : length (bits octets) ≡ length list + rest = ap (λ (l : List Bool). length l) shape
    ∙ omega (arith, length-append list (replicate rest false), length-replicate rest false) in
    let same : take place (bits octets) ≡ front = ap (take place) shape
    ∙ take-append-le place list (replicate rest false) z.within in
    let n : length list - place + rest ≡ length (bits octets) - place = omega (arith, total, z.within) in
    zero_from place (bits octets) (omega (arith, total, z.within))
    (shape
    ∙ ap (λ (l : List Bool). l ++ replicate rest false) (zeros_behind place list z)
    ∙ append_assoc front (replicate (length list - place) false) (replicate rest false)
    ∙ ap (λ (l : List Bool). front ++ l)
    (replicate-append-replicate (length list - place) rest false ∙ ap (λ (k : ℕ). replicate k false) n)
    ∙ ap (λ (l : List Bool). l ++ replicate (length (bits octets) - place) false) (sym same))

-- the octets of whole octets of bits
pub whole-front : (octets front : List ℕ) (len : ℕ) → IsFilled octets len → len % 8 ≡ 0 → front ≡ take (len / 8) octets
    → IsFilled front len × (bits_shown front len ≡ bits_shown octets len) × (length front * 8 ≡ len)
whole-front octets front len f whole e =
    let n : len / 8 ≡ octets_for len = omega (arith, whole) in
    let same : front ≡ take (octets_for len) octets = e ∙ ap (λ (k : ℕ). take k octets) n in
    let g = filled-front octets len f in (
      rw same g.0,
      rw same g.1,
      omega (
        arith,
        ap (λ (l : List ℕ). length l) same,
        length-take (octets_for len) octets,
        f.count,
        whole,
      ),
    )

-- octets after whole octets
pub whole-filled : (items src : List ℕ) (len : ℕ) → length items * 8 ≡ len
    → IsFilled (items ++ src) (len + 8 * length src)
    × (bits_shown (items ++ src) (len + 8 * length src) ≡ bits_shown items len ++ bits src)
unfolding bits_shown
whole-filled items src len whole =
    let end = len + 8 * length src in
    let all = bits (items ++ src) in
    let n : end ≡ length all = omega (arith, length-bits (items ++ src), length-append items src) in
    let none : 0 ≡ length all - end = omega (arith, n) in (
      record {
        count = omega (arith, length-append items src);
        few = omega (arith, length-append items src);
        rest =
            record {
              within = omega (arith, n);
              zero = drop_all end all (omega (arith, n))
                  ∙ ap (λ (k : ℕ). replicate k false) none;
            };
      },
      take_all end all (omega (arith, n)) ∙ bits-append items src
          ∙ ap (λ (l : List Bool). l ++ bits src)
          (sym (take_all len (bits items) (omega (arith, length-bits items)))),
    )
