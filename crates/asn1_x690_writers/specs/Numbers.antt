-- A number in two's complement that was written.
use Rattle.std.specs.Prelude.{◌≡◌, ℕ, ℤ, pos, negsuc, ◌%◌, Bool, List, length}
use Rattle.asn1_x690.specs.Leaves.{IsInteger}
use Rattle.asn1_x691_writers.specs.Written.{IsGrown}

-- a number, or how far it is below -1
abbrev pub mag_of : ℤ → ℕ
mag_of (pos n) = n
mag_of (negsuc n) = n

pub record IsNumberWritten (z : ℤ) (was : List ℕ) (old : ℕ) (now : List ℕ) (new : ℕ) : Type 0 where
  pub list : List Bool
  pub encodes : IsInteger z list
  pub whole : length list % 8 ≡ 0
  pub grown : IsGrown was old now new list
