-- Lists that are cut into parts of one length, and the numbers that octets encode.
use Rattle.std.specs.Prelude.{◌+◌, ◌*◌, ◌/◌, ◌^◌, ℕ, List, [], ◌∷◌, length, map, take, drop}
use Rattle.std.specs.List.{range_with_len}

-- the piece at an index, where each piece has w elements
abbrev pub piece : {X : Type 0} → ℕ → List X → ℕ → List X
piece w xs i = take w (drop (i * w) xs)

-- the list, cut into pieces of w elements
abbrev pub pieces : {X : Type 0} → ℕ → List X → List (List X)
pieces w xs = map (piece w xs) (range_with_len 0 (length xs / w))

-- the number of octets, most significant first: their positional sum to base 256
unfoldable pub unsigned : List ℕ → ℕ
unsigned [] = 0
unsigned (b ∷ bs) = b * 256 ^ length bs + unsigned bs
