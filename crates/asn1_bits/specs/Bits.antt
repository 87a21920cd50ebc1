-- Lists of bits: what numbers and octets encode. A bit is a Boolean.
use Rattle.std.specs.Prelude.{◌≡◌, ℕ, zero, suc, ◌+◌, ◌-◌, ◌*◌, ◌/◌, ◌%◌, ◌≤◌, Bool, false, ◌||◌, ◌&&◌, if◌then◌else◌, ◌==◌, nat_le, List, [], ◌∷◌, ◌++◌, take, drop, map, length, replicate, slice_index_or}
use Rattle.std.specs.List.{flat_map, fold, range_with_len}
use Rattle.std.specs.Int.{div_ceil}

abbrev pub is_odd : ℕ → Bool
is_odd n = n % 2 == 1

-- the `width` lowest binary digits of n, most significant first
unfoldable pub digits : ℕ → ℕ → List Bool
digits n zero = []
digits n (suc width) = digits (n / 2) width ++ is_odd n ∷ []

-- the number whose binary digits are the list, most significant first
unfoldable pub number : List Bool → ℕ
number list = fold (λ n bit. 2 * n + (if bit then 1 else 0)) 0 list

-- the digits of the octets, eight for each, most significant first
unfoldable pub bits : List ℕ → List Bool
bits octets = flat_map (λ octet. digits octet 8) octets

-- how many octets hold that many bits
abbrev pub octets_for : ℕ → ℕ
octets_for len = div_ceil len 8

-- that many bits after a list of `len` bits take no octet more
abbrev pub AddsNoOctet : ℕ → ℕ → Type 0
AddsNoOctet len more = octets_for (len + more) ≡ octets_for len

-- the list followed by zeros to the octet's end
abbrev pub padded : List Bool → List Bool
padded list = list ++ replicate (8 * octets_for (length list) - length list) false

-- from an index on, the list is zeros
pub record IsZeroFrom (place : ℕ) (list : List Bool) : Type 0 where
  pub within : place ≤ length list
  pub zero : drop place list ≡ replicate (length list - place) false

-- old with src ORed in from an index on: bit i is old's, or old's or that of src at i - place
unfoldable pub ored : List Bool → ℕ → List Bool → List Bool
ored old place src =
    map
    (λ i. slice_index_or old i false || (nat_le place i && slice_index_or src (i - place) false))
    (range_with_len 0 (length old))

-- old with the list written over it from an index on
unfoldable pub overwritten : List Bool → ℕ → List Bool → List Bool
overwritten old place list = take place old ++ (list ++ drop (place + length list) old)
