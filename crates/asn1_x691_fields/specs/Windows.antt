-- What a window of a message tells of its bits.
use Rattle.std.specs.Prelude.{◌≡◌, ℕ, ◌+◌, ◌-◌, ◌*◌, ◌/◌, ◌%◌, ◌^◌, ◌<◌, ◌≤◌, Bool, List, take, drop}
use Rattle.asn1_bits.specs.Bits.{number}
use Rattle.asn1_x691_fields.specs.declared.windows.Window.{Window}

-- the number of `width` bits of a word after `skipped` others
abbrev pub field_of_word : ℕ → ℕ → ℕ → ℕ
field_of_word word skipped width = word * 2 ^ skipped % 2 ^ 64 / 2 ^ (64 - width)

-- a window has the bits from an index on, as far as its word reaches
pub record IsWindow (list : List Bool) (at : ℕ) (w : Window) : Type 0 where
  pub shift : w.shift < 64
  pub numbers : (skipped width : ℕ) → w.shift + (skipped + width) ≤ 64
      → field_of_word w.word (w.shift + skipped) width ≡ number (take width (drop (at + skipped) list))
