-- Octets that lie one after another in the bits of others.
use Rattle.std.proofs.Common.{◌≡◌, ℕ, zero, suc, ◌+◌, ◌-◌, ◌*◌, ◌<◌, ◌≤◌, Bool, List, [], ◌∷◌, ◌++◌, length, take, drop, get_or, refl, sym, ap, ◌∙◌, arith}
use Rattle.std.specs.Prelude.{All}
use Rattle.std.proofs.lemmas.List.{length-take, length-drop, drop-drop, take_all, take_more, take_more_set}
use Rattle.std.proofs.Math.Seq.{take-add}
use Rattle.std.proofs.Math.ListN.{set}
use Rattle.std.proofs.lemmas.List.Elements.{All-nil, All-cons, All-head, All-tail}
use Rattle.asn1_bits.specs.Bits.{digits, number, bits}
use Rattle.asn1_bits.specs.Laws.DigitLaws.{length-bits}
use Rattle.asn1_bits.specs.Laws.NumberLaws.{digits_of-number, number-below, same_octets}
use Rattle.asn1_number.specs.Octets.{IsOctets}
use Rattle.asn1_values.specs.Fields as plain
use Rattle.asn1_values.specs.Fields.{IsSpelledBy}
use Rattle.asn1_values.specs.Walk.{octets_of}
use Rattle.asn1_c.specs.Octets.{octets_at}

pub length-octets_of : (n : ℕ) (list : List Bool) → length (octets_of n list) ≡ n
length-octets_of zero list = refl
length-octets_of (suc n) list = ap suc (length-octets_of n (drop 8 list))

pub octets-octets_of : (n : ℕ) (list : List Bool) → 8 * n ≤ length list → All (λ octet. octet < 256) (octets_of n list)
octets-octets_of zero list le = All-nil (λ octet. octet < 256)
octets-octets_of (suc n) list le =
    All-cons (λ octet. octet < 256) (number (take 8 list)) (octets_of n (drop 8 list))
    (number-below (take 8 list) 8 (omega (arith, length-take 8 list)))
    (octets-octets_of n (drop 8 list) (omega (arith, length-drop 8 list)))

-- the bits of octets are those that they were read from
pub bits-octets_of : (n : ℕ) (list : List Bool) → 8 * n ≤ length list → bits (octets_of n list) ≡ take (8 * n) list
unfolding bits
bits-octets_of zero list le = refl
bits-octets_of (suc n) list le =
    let more : 8 * suc n ≡ 8 + 8 * n = omega arith in
    let first : digits (number (take 8 list)) 8 ≡ take 8 list =
    digits_of-number (take 8 list) 8 (omega (arith, length-take 8 list)) in
    let others : bits (octets_of n (drop 8 list)) ≡ take (8 * n) (drop 8 list) =
    bits-octets_of n (drop 8 list) (omega (arith, length-drop 8 list)) in
    ap (λ (l : List Bool). l ++ bits (octets_of n (drop 8 list))) first
    ∙ ap (λ (l : List Bool). take 8 list ++ l) others ∙ sym (take-add 8 (8 * n) list)
    ∙ ap (λ (k : ℕ). take k list) (sym more)

-- the octet at an index
pub get_or-octets_of : (n i : ℕ) (list : List Bool) → i < n
    → get_or (octets_of n list) i 0 ≡ number (take 8 (drop (8 * i) list))
get_or-octets_of zero i list lt = absurd (omega arith)
get_or-octets_of (suc n) zero list lt = refl
get_or-octets_of (suc n) (suc i) list lt =
    let e : 8 + 8 * i ≡ 8 * suc i = omega arith in
    get_or-octets_of n i (drop 8 list) (omega arith)
    ∙ ap (λ (l : List Bool). number (take 8 l)) (drop-drop (8 * i) 8 list ∙ ap (λ (k : ℕ). drop k list) e)

-- the two ways to say that each is an octet
pub IsOctets_from_All : (octets : List ℕ) → All (λ octet. octet < 256) octets → IsOctets octets
IsOctets_from_All [] h = tt
IsOctets_from_All (x ∷ xs) h =
    (All-head (λ octet. octet < 256) x xs h, IsOctets_from_All xs (All-tail (λ octet. octet < 256) x xs h))

pub All_from_IsOctets : (octets : List ℕ) → IsOctets octets → All (λ octet. octet < 256) octets
All_from_IsOctets [] h = All-nil (λ octet. octet < 256)
All_from_IsOctets (x ∷ xs) h = All-cons (λ octet. octet < 256) x xs h.0 (All_from_IsOctets xs h.1)

-- ---- octets at an offset

pub length-left : (octets : List ℕ) (at : ℕ) → length (drop at (bits octets)) ≡ 8 * length octets - at
length-left octets at = length-drop at (bits octets) ∙ ap (λ (k : ℕ). k - at) (length-bits octets)

pub length-cut : (octets : List ℕ) (at n : ℕ) → at + n ≤ 8 * length octets → length (take n (drop at (bits octets))) ≡ n
length-cut octets at n le = omega (arith, length-take n (drop at (bits octets)), length-left octets at)

module _ (octets : List ℕ) (at count : ℕ) (le : at + 8 * count ≤ 8 * length octets) where
  enough : 8 * count ≤ length (drop at (bits octets))
  enough = omega (arith, length-left octets at)

  pub are_octets_at : All (λ octet. octet < 256) (octets_at octets at count)
  are_octets_at = octets-octets_of count (drop at (bits octets)) enough

  pub bits-octets_at : bits (octets_at octets at count) ≡ take (8 * count) (drop at (bits octets))
  bits-octets_at = bits-octets_of count (drop at (bits octets)) enough

  -- other octets with these bits are the same
  pub octets_at_only : (others : List ℕ) → All (λ octet. octet < 256) others
      → take (8 * count) (drop at (bits octets)) ≡ bits others → others ≡ octets_at octets at count
  octets_at_only others are e =
      same_octets others (octets_at octets at count) are are_octets_at (sym e ∙ sym bits-octets_at)

  pub octet_of_place : (i : ℕ) → i < count
      → get_or (octets_at octets at count) i 0 ≡ number (take 8 (drop (at + 8 * i) (bits octets)))
  octet_of_place i lt =
      get_or-octets_of count i (drop at (bits octets)) lt
      ∙ ap (λ (l : List Bool). number (take 8 l))
      (drop-drop (8 * i) at (bits octets))

  -- one octet more is copied
  pub one_more : (room : List ℕ) (i octet : ℕ) → i < count → i < length room
      → octet ≡ number (take 8 (drop (at + 8 * i) (bits octets)))
      → take i room ≡ take i (octets_at octets at count)
      → take (i + 1) (set room i octet) ≡ take (i + 1) (octets_at octets at count)
  one_more room i octet lt in_room is so_far =
      let n : length (octets_at octets at count) ≡ count = length-octets_of count (drop at (bits octets)) in
      let here : octet ≡ get_or (octets_at octets at count) i 0 = is ∙ sym (octet_of_place i lt) in
      take_more_set room i octet in_room ∙ ap (λ (l : List ℕ). l ++ octet ∷ []) so_far
      ∙ ap (λ (k : ℕ). take i (octets_at octets at count) ++ k ∷ []) here
      ∙ sym (take_more (octets_at octets at count) i 0 (omega arith))

-- `n` octets are encoded by their bits
pub octets_spelled : (n : ℕ) (list : List Bool) → length list ≡ 8 * n
    → (o : List ℕ) × (length o ≡ n) × IsSpelledBy (plain.Octets o) list
octets_spelled n list e = (
  octets_of n list,
  length-octets_of n list,
  (
    octets-octets_of n list (omega arith),
    sym (bits-octets_of n list (omega arith) ∙ take_all (8 * n) list (omega arith)),
  ),
)
