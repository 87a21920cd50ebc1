-- The shortest two's complement octets of a number, computed. That they are the shortest is the law
-- `ComputedAreShortest`.
use Rattle.std.specs.Prelude.{ℕ, suc, ◌-◌, ◌*◌, ◌^◌, ℤ, pos, negsuc, List, nat_le}
use Rattle.std.specs.Int.{bytes_high_first}
use Rattle.std.specs.List.{prefix_len, range_with_len}
use lib.Signed.{mag}

-- how many octets z needs after the first: the least k with -128 * 256 ^ k ≤ z < 128 * 256 ^ k.
-- It is counted by `mag`, which is n for n and for -n - 1, since these need as many: -128 has one
-- octet, as 127 has
abbrev pub octets_past_first : ℤ → ℕ
octets_past_first z =
    prefix_len (λ k. nat_le (128 * 256 ^ k) (mag z)) (range_with_len 0 (suc (mag z)))

-- z's octets, read as unsigned: n itself, and for a number below zero what it is modulo 256 ^
-- size
abbrev pub residue_at : ℕ → ℤ → ℕ
residue_at size (pos n) = n
residue_at size (negsuc n) = 256 ^ size - suc n

unfoldable pub shortest_octets : ℤ → List ℕ
shortest_octets z =
    bytes_high_first (suc (octets_past_first z)) (residue_at (suc (octets_past_first z)) z)
