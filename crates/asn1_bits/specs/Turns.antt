-- Turns: each is for one word of at most 64 bits.
use Rattle.std.specs.Prelude.{ℕ, ◌+◌, ◌/◌, ◌%◌}
use Rattle.std.specs.Int.{div_ceil}

-- the most turns that n bits take: one for each whole word of 64 bits, then one for each octet of
-- the rest, also a begun one
abbrev pub turns_for : ℕ → ℕ
turns_for n = n / 64 + div_ceil (n % 64) 8
