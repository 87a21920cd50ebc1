-- The form of an input.
use Rattle.std.specs.Prelude.{ℕ, Bool, List, [], ◌∷◌, false, ◌&&◌, ◌||◌, ◌==◌, nat_eq, nat_le, codes}
use Rattle.std.specs.List.{starts_with, list_all, list_any}

-- octets begin with `-----BEGIN `, as the first line of a block does (RFC 7468)
abbrev pub begins_block : List ℕ → Bool
begins_block octets = starts_with nat_eq octets (codes "-----BEGIN ")

-- a line after the first one begins so
abbrev pub has_later_block : List ℕ → Bool
has_later_block [] = false
has_later_block (octet ∷ rest) = (octet == 10 && begins_block rest) || has_later_block rest

-- a line begins so
abbrev pub has_block : List ℕ → Bool
has_block octets = begins_block octets || has_later_block octets

-- a hexadecimal digit, in either case
abbrev pub is_digit : ℕ → Bool
is_digit octet = (nat_le 48 octet && nat_le octet 57) || (nat_le 65 octet && nat_le octet 70) || (nat_le 97 octet && nat_le octet 102)

-- a space, a tab, or the end of a line
abbrev pub is_white : ℕ → Bool
is_white octet = (octet == 32) || (octet == 9) || (octet == 10) || (octet == 13)

-- hexadecimal digits and white space alone, with one digit at least
abbrev pub is_of_digits : List ℕ → Bool
is_of_digits octets = list_all (λ octet. is_digit octet || is_white octet) octets && list_any is_digit octets
