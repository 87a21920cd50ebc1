-- Sets of characters below 256 as four words of 64 bits.
use Rattle.std.specs.Prelude.{◌/◌, ◌%◌, ◌^◌, ◌==◌, ℕ, Bool, List, slice_index}

-- whether the bit of a character is set: bit c % 64 of word c / 64
abbrev pub in_words : List ℕ → ℕ → Bool
in_words words c = slice_index words (c / 64) / 2 ^ (c % 64) % 2 == 1
