-- Octets and their bits, one from the other.
use Rattle.std.proofs.Common.{◌≡◌, ℕ, zero, suc, ◌*◌, ◌<◌, ◌≤◌, Bool, List, [], ◌∷◌, length, take, drop, get_or, ◌+◌, refl, sym, ap, ◌∙◌, arith}
use Rattle.std.proofs.lemmas.List.{nil_from_length, take_at, drop_at, length-take, length-drop, take-append-drop, drop-drop}
use Rattle.std.proofs.lemmas.List.Elements.{All-nil, All-cons, All-head, All-tail}
use Rattle.std.specs.Prelude.{All}
use Rattle.asn1_bits.specs.Bits.{digits, number, bits}
use Rattle.asn1_values.specs.Walk.{octets_of}
use Rattle.asn1_bits.specs.Laws.DigitLaws.{length-digits}
use Rattle.asn1_bits.specs.Laws.NumberLaws.{number_of-digits, digits_of-number, number-below}

pub length-octets_of : (n : ℕ) (list : List Bool) → length (octets_of n list) ≡ n
length-octets_of zero list = refl
length-octets_of (suc n) list = ap suc (length-octets_of n (drop 8 list))

pub octets-octets_of : (n : ℕ) (list : List Bool) → 8 * n ≤ length list → All (λ octet. octet < 256) (octets_of n list)
octets-octets_of zero list le = All-nil (λ octet. octet < 256)
octets-octets_of (suc n) list le =
    All-cons (λ octet. octet < 256) (number (take 8 list)) (octets_of n (drop 8 list))
    (number-below (take 8 list) 8 (omega (arith, length-take 8 list)))
    (octets-octets_of n (drop 8 list) (omega (arith, length-drop 8 list)))

pub bits-octets_of : (n : ℕ) (list : List Bool) → length list ≡ 8 * n → bits (octets_of n list) ≡ list
unfolding bits
bits-octets_of zero list e = sym (nil_from_length list (omega arith))
bits-octets_of (suc n) list e =
    rw (
      digits_of-number (take 8 list) 8 (omega (arith, length-take 8 list)),
      bits-octets_of n (drop 8 list)
          (omega (arith, length-drop 8 list)),
    ) (take-append-drop 8 list)

pub octets_of-bits : (octets : List ℕ) → All (λ octet. octet < 256) octets
    → octets_of (length octets) (bits octets) ≡ octets
unfolding bits
octets_of-bits [] h = refl
octets_of-bits (x ∷ xs) h =
    let lt : x < 256 = All-head (λ octet. octet < 256) x xs h in
    let l = length-digits x 8 in
    rw (
      take_at (digits x 8) (bits xs) 8 l,
      drop_at (digits x 8) (bits xs) 8 l,
      number_of-digits x 8 lt,
      octets_of-bits
          xs (All-tail (λ octet. octet < 256) x xs h),
    ) refl

-- the octet at an index
pub get_or-octets_of : (n i : ℕ) (list : List Bool) → i < n
    → get_or (octets_of n list) i 0 ≡ number (take 8 (drop (8 * i) list))
get_or-octets_of zero i list lt = absurd (omega arith)
get_or-octets_of (suc n) zero list lt = refl
get_or-octets_of (suc n) (suc i) list lt =
    let e : 8 + 8 * i ≡ 8 * suc i = omega arith in
    get_or-octets_of n i (drop 8 list) (omega arith)
    ∙ ap (λ (l : List Bool). number (take 8 l)) (drop-drop (8 * i) 8 list ∙ ap (λ (k : ℕ). drop k list) e)
