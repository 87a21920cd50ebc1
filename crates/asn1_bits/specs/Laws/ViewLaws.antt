-- The bits of a view and of its parts.
use Rattle.std.proofs.Common.{◌≡◌, ℕ, ◌+◌, ◌*◌, ◌/◌, ◌%◌, ◌<◌, ◌≤◌, Bool, false, List, [], length, get_or, take, drop, sym, ap, ◌∙◌, arith}
use Rattle.std.proofs.lemmas.List.{length-take, get_or-take, get_or-drop, drop-drop, drop-take, take-take}
use Rattle.asn1_bits.specs.Bits.{bits, digits}
use Rattle.asn1_bits.specs.View.{View, list_of, IsWithin, part}
use Rattle.asn1_bits.specs.Laws.DigitLaws.{length-drop_bits, bits-drop, bits-take}

-- a view within its storage has as many bits as it says
pub length-list_of : (v : View) → IsWithin v → length (list_of v) ≡ v.len
unfolding list_of
length-list_of v h = length-take v.len (drop v.first (bits v.storage))
    ∙ omega (arith, length-drop_bits v.storage v.first)

-- a bit of a view is one of its storage
pub get_or-list_of : (v : View) (i : ℕ) → i < v.len
    → get_or (list_of v) i false ≡ get_or (bits v.storage) (v.first + i) false
unfolding list_of
get_or-list_of v i h = get_or-take v.len (drop v.first (bits v.storage)) i false h
    ∙ get_or-drop v.first (bits v.storage) i false

-- the bits of a part
pub list_of-part : (v : View) (from len : ℕ) → from + len ≤ v.len
    → list_of (part v from len) ≡ take len (drop from (list_of v))
unfolding list_of
list_of-part v from len h =
    let all = drop v.first (bits v.storage) in
    ap (take len) (sym (drop-drop from v.first (bits v.storage)))
    ∙ sym (drop-take from len all)
    ∙ ap (drop from) (sym (take-take (from + len) v.len all h))
    ∙ drop-take from len (list_of v)

-- a front of the view, read from the octet that it begins in
pub list_of-front : (v : View) (octet shift n : ℕ) → v.first ≡ 8 * octet + shift → n ≤ v.len
    → take n (drop shift (bits (drop octet v.storage))) ≡ take n (list_of v)
unfolding list_of
list_of-front v octet shift n e h =
    ap (λ (l : List Bool). take n (drop shift l)) (bits-drop octet v.storage)
    ∙ ap (take n) (drop-drop shift (8 * octet) (bits v.storage) ∙ sym (ap (λ (k : ℕ). drop k (bits v.storage)) e))
    ∙ sym (take-take n v.len (drop v.first (bits v.storage)) h)

-- the octets of an aligned view
pub list_of-aligned : (v : View) (octet : ℕ) → v.first ≡ 8 * octet → v.len % 8 ≡ 0
    → bits (take (v.len / 8) (drop octet v.storage)) ≡ list_of v
unfolding list_of
list_of-aligned v octet e m =
    bits-take (v.len / 8) (drop octet v.storage)
    ∙ ap (take (8 * (v.len / 8))) (bits-drop octet v.storage ∙ sym (ap (λ (k : ℕ). drop k (bits v.storage)) e))
    ∙ (let n : 8 * (v.len / 8) ≡ v.len = omega arith in ap (λ (k : ℕ). take k (drop v.first (bits v.storage))) n)

-- 64 bits read from where they lie in the storage
pub whole_read : (v : View) (at first shift n : ℕ) → v.first + at ≡ 8 * first + shift → at + 64 ≤ v.len
    → digits n 64 ≡ take 64 (drop (8 * first + shift) (bits v.storage)) → digits n 64 ≡ take 64 (drop at (list_of v))
unfolding list_of
whole_read v at first shift n e h r =
    r ∙ ap (λ (k : ℕ). take 64 (drop k (bits v.storage))) (sym e) ∙ list_of-part v at 64 h

-- bits of the view from one of them on, read from the octet that it lies in
pub list_of-run : (v : View) (at octet shift n : ℕ) (octets : List ℕ) → octets ≡ drop octet v.storage
    → v.first + at ≡ 8 * octet + shift → at + n ≤ v.len
    → take n (drop shift (bits octets)) ≡ take n (drop at (list_of v))
list_of-run v at octet shift n octets o e h =
    ap (λ (l : List ℕ). take n (drop shift (bits l))) o
    ∙ list_of-front (part v at n) octet shift n e (omega arith)
    ∙ ap (take n) (list_of-part v at n h)
    ∙ take-take n n (drop at (list_of v)) (omega arith)

-- no octets have no bits
pub bits-none : (octets : List ℕ) → octets ≡ [] → bits octets ≡ []
unfolding bits
bits-none octets e = ap bits e

-- a view of no bits
pub list_of-none : (v : View) → v.len ≡ 0 → list_of v ≡ []
unfolding list_of
list_of-none v e = ap (λ (n : ℕ). take n (drop v.first (bits v.storage))) e
