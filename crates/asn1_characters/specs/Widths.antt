-- Widths: how many bits are enough for a code for each of a number of things.
use Rattle.std.specs.Prelude.{◌^◌, ◌+◌, ◌≤◌, ℕ, suc, zero, Bool, true, false, nat_le, if◌then◌else◌}

-- w is the least width in which n things can have codes of their own: for no thing, and for one, it
-- is 0
pub record IsLeastWidth (n w : ℕ) : Type 0 where
  pub enough : n ≤ 2 ^ w
  pub least : (v : ℕ) → n ≤ 2 ^ v → w ≤ v

-- the first of the widths from w on, up to w + more, that is enough for n things
unfoldable pub least_from : ℕ → ℕ → ℕ → ℕ
least_from zero w n = w
least_from (suc more) w n = elim (nat_le n (2 ^ w)) [ true ↦ w | false ↦ least_from more (w + 1) n ]

-- the least width of n things, as the law `ceil_log2_is_least` says
unfoldable pub ceil_log2 : ℕ → ℕ
ceil_log2 n = least_from n 0 n

-- a width as it is, and in the aligned variant the least power of two that is at least as large,
-- which is 1 for 0
abbrev pub align : Bool → ℕ → ℕ
align aligned w = if aligned then 2 ^ ceil_log2 w else w

-- the width of a set of `count` characters (X.691 30.5.2)
abbrev pub width_for : Bool → ℕ → ℕ
width_for aligned count = if nat_le count 1 then 0 else align aligned (ceil_log2 count)
