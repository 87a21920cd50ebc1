-- A BIT STRING that was written.
use Rattle.std.specs.Prelude.{◌≡◌, ℕ, ◌%◌, Bool, List, length}
use Rattle.asn1_x690.specs.Leaves.{IsBitString}
use Rattle.asn1_x691_writers.specs.Written.{IsGrown}

pub record IsStringWritten (x : List Bool) (was : List ℕ) (old : ℕ) (now : List ℕ) (new : ℕ) : Type 0 where
  pub list : List Bool
  pub encodes : IsBitString x list
  pub whole : length list % 8 ≡ 0
  pub grown : IsGrown was old now new list
