-- Numbers of a few bits, one after another in a word: each has a lane.
use Rattle.std.specs.Prelude.{ℕ, zero, suc, ◌+◌, ◌*◌, ◌^◌}

-- 1 in each of `lanes` lanes
abbrev pub ones : ℕ → ℕ → ℕ
ones width zero = 0
ones width (suc lanes) = 1 + 2 ^ width * ones width lanes
