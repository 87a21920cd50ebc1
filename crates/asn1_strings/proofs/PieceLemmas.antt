-- Pieces, and the numbers that they encode.
use Rattle.std.proofs.Common.{◌≡◌, ℕ, suc, ◌+◌, ◌*◌, ◌/◌, ◌^◌, ◌<◌, ◌≤◌, List, [], ◌∷◌, length, get_or, map, ap, ◌∙◌, arith}
use Rattle.std.specs.List.{fold}
use Rattle.std.proofs.Math.Nat.{pow-succ'}
use Rattle.std.proofs.Math.Pow.{pow_mono}
use Rattle.std.proofs.lemmas.Nat.{pow-add}
use Rattle.std.proofs.lemmas.List.{length-map, get_or-map}
use Rattle.std.proofs.lemmas.List.FromFn.{get_or-map-range_with_len}
use Rattle.asn1_strings.specs.Pieces.{piece, pieces, unsigned}
use Rattle.asn1_strings.specs.Laws.PieceLaws.{length-pieces}

-- the number of octets, gathered from the first on
abbrev pub gathered : List ℕ → ℕ
gathered octets = fold (λ n octet. 256 * n + octet) 0 octets

gathered_from : (octets : List ℕ) (m : ℕ)
    → fold (λ n octet. 256 * n + octet) m octets ≡ m * 256 ^ length octets + unsigned octets
unfolding unsigned
gathered_from [] m = omega arith
gathered_from (b ∷ bs) m =
    let rest = gathered_from bs (256 * m + b) in
    let power : 256 ^ suc (length bs) ≡ 256 * 256 ^ length bs = pow-succ' 256 (length bs) in
    rest ∙ rw power (omega arith)

-- it is their positional sum
pub unsigned-gathered : (octets : List ℕ) → gathered octets ≡ unsigned octets
unsigned-gathered octets = gathered_from octets 0 ∙ omega arith

-- one more octet
pub octet_step : (i n octet : ℕ) → n < 2 ^ (8 * i) → octet < 256 → 256 * n + octet < 2 ^ (8 * (i + 1))
octet_step i n octet low small =
    let grown : 2 ^ (8 * (i + 1)) ≡ 2 ^ (8 * i) * 256 =
    ap (λ e. 2 ^ e) (let e : 8 * (i + 1) ≡ 8 * i + 8 = omega arith in e) ∙ pow-add 2 (8 * i) 8 in
    omega arith

-- and one more of at most four
pub octet_fits : (i n octet : ℕ) → i < 4 → n < 2 ^ (8 * i) → octet < 256 → 256 * n + octet < 2 ^ 32
octet_fits i n octet few low small =
    let step = octet_step i n octet low small in
    let room : 2 ^ (8 * (i + 1)) ≤ 2 ^ 32 = pow_mono (let e : 8 * (i + 1) ≤ 32 = omega arith in e) in
    omega arith

-- the number at an index, of what f makes of each piece
pub get_or-pieces : {X : Type 0} (f : List X → ℕ) (w : ℕ) (xs : List X) (i : ℕ) → i < length xs / w
    → get_or (map f (pieces w xs)) i 0 ≡ f (piece w xs i)
get_or-pieces f w xs i lt =
    get_or-map f (pieces w xs) i [] 0 (rw (length-pieces w xs) lt)
    ∙ ap f (get_or-map-range_with_len (piece w xs) 0 (length xs / w) i i [] lt (omega arith))

pub length-numbers : {X : Type 0} (f : List X → ℕ) (w : ℕ) (xs : List X)
    → length (map f (pieces {X = X} w xs)) ≡ length xs / w
length-numbers f w xs = length-map (pieces w xs) f ∙ length-pieces w xs
