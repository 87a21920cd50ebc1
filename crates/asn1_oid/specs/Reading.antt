-- Contents read from left to right, computed: how the steps of the code are stated and proved. No
-- public contract cites this.
use Rattle.std.specs.Prelude.{◌≡◌, ℕ, ◌+◌, ◌-◌, ◌*◌, ◌/◌, ◌%◌, ◌<◌, ◌≤◌, ◌==◌, ◌&&◌, Bool, true, false, not, nat_lt, nat_le, if◌then◌else◌, min, List, [], ◌∷◌, ◌++◌, length, drop, Option, Some, None, Result, Ok, Err}
use Rattle.std.specs.List.{list_all}
use Rattle.asn1_oid.specs.declared.contents.ContentsError.{ContentsError}
use Rattle.asn1_oid.specs.declared.contents.ContentsError.TheVariants.{Malformed, ArcTooLarge}

-- the numbers, with those of `front` before them
abbrev pub with_front : List ℕ → Option (List ℕ) → Option (List ℕ)
with_front front (Some numbers) = Some (front ++ numbers)
with_front front None = None

-- the numbers of the subidentifiers, where the octets are subidentifiers; `begun` says that the
-- first of them begins before these octets, and n is its number so far
unfoldable pub numbers_from : Bool → ℕ → List ℕ → Option (List ℕ)
numbers_from begun n [] = if begun then None else Some []
numbers_from begun n (octet ∷ octets) =
    if not begun && octet == 128 then None
    else (if nat_lt octet 128 then with_front ((128 * n + octet % 128) ∷ []) (numbers_from false 0 octets)
    else numbers_from true (128 * n + octet % 128) octets)

abbrev pub numbers_of : List ℕ → Option (List ℕ)
numbers_of octets = numbers_from false 0 octets

-- the first two arcs, from the number 40 * X + Y
abbrev pub first_arc : ℕ → ℕ
first_arc n = min (n / 40) 2

abbrev pub second_arc : ℕ → ℕ
second_arc n = n - 40 * first_arc n

-- the largest number of the first subidentifier, and of another one, whose arcs fit
abbrev pub largest_first : ℕ
largest_first = 4294967375

abbrev pub largest_other : ℕ
largest_other = 4294967295

abbrev pub other_fits : ℕ → Bool
other_fits n = nat_le n largest_other

-- arcs that fit, or the error of the subidentifiers
abbrev pub arcs_of_numbers : Option (List ℕ) → Result (List ℕ) ContentsError
arcs_of_numbers None = Err Malformed
arcs_of_numbers (Some []) = Err Malformed
arcs_of_numbers (Some (n ∷ numbers)) =
    if nat_le n largest_first && list_all other_fits numbers
    then Ok (first_arc n ∷ second_arc n ∷ numbers)
    else Err ArcTooLarge

-- what the octets are contents of
unfoldable pub contents_reading : List ℕ → Result (List ℕ) ContentsError
contents_reading octets = arcs_of_numbers (numbers_of octets)

-- The octets from `place` up to `next` are one subidentifier. `told` is its number, or `cap` where
-- the number is larger.
pub record Stands (octets : List ℕ) (place told next cap : ℕ) : Type 0 where
  pub number : ℕ
  pub as_told : told ≡ min number cap
  pub later : place < next
  pub within : next ≤ length octets
  pub read : numbers_of (drop place octets) ≡ with_front (number ∷ []) (numbers_of (drop next octets))
